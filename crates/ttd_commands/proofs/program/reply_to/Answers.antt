use Rattle.std.proofs.Common.{sym, subst}
use Rattle.ttd_words.specs.declared.requests.Command.{Command}
use Rattle.ttd_commands.specs.Answer.{answer_in}
use Rattle.ttd_commands.specs.Command.{HasReply, IsCommandReply}
use Rattle.ttd_commands.proofs.program.reply_to.Goals as goal

pub returns-in-Run-clause-value : goal.returns-in-Run-clause-value
returns-in-Run-clause-value c =
    subst (λ (command : Command). HasReply answer_in (IsCommandReply command c.args.input.now) c.run_reply.result) (sym c.in-Run.is) c.run_reply.ensures.value

pub returns-in-Twin-clause-value : goal.returns-in-Twin-clause-value
returns-in-Twin-clause-value c =
    subst (λ (command : Command). HasReply answer_in (IsCommandReply command c.args.input.now) c.twin_reply.result) (sym c.in-Twin.is) c.twin_reply.ensures.value

pub returns-in-Picture-clause-value : goal.returns-in-Picture-clause-value
returns-in-Picture-clause-value c =
    subst (λ (command : Command). HasReply answer_in (IsCommandReply command c.args.input.now) c.picture_reply.result) (sym c.in-Picture.is) c.picture_reply.ensures.value

pub returns-in-Trace-clause-value : goal.returns-in-Trace-clause-value
returns-in-Trace-clause-value c =
    subst (λ (command : Command). HasReply answer_in (IsCommandReply command c.args.input.now) c.trace_reply.result) (sym c.in-Trace.is) c.trace_reply.ensures.value

pub returns-in-Judge-clause-value : goal.returns-in-Judge-clause-value
returns-in-Judge-clause-value c =
    subst (λ (command : Command). HasReply answer_in (IsCommandReply command c.args.input.now) c.judge_reply.result) (sym c.in-Judge.is) c.judge_reply.ensures.value
