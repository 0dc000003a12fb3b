use Rattle.std.proofs.Common.{◌≡◌, List, subst}
use Rattle.tt_judge.specs.declared.history.Commit.{Commit}
use Rattle.ttd_commands.specs.Command.{HasReply}
use Rattle.ttd_commands.specs.Judging.{TellsJudgement, history_fault_of}
use Rattle.ttd_commands.specs.Answer.{answer_in}
use Rattle.ttd_commands.proofs.Judged.{history_refused, history_replied}
use Rattle.ttd_commands.proofs.judging.judge_reply.Goals as goal

pub returns-in-Err-clause-value : goal.returns-in-Err-clause-value
returns-in-Err-clause-value c = history_refused answer_in c.args.input.now _ c.in-Err.fault
    (let told : c.from.result ≡ history_fault_of c.in-Err.fault = c.from.ensures in cc) c.in-Err.ensures.bad

pub returns-in-Ok-clause-value : goal.returns-in-Ok-clause-value
returns-in-Ok-clause-value c = history_replied answer_in c.args.input.now c.judged.result c.in-Ok.history c.in-Ok.ensures.found c.in-Ok.ensures.only c.judge_terms-terms.result c.judge_terms-terms.ensures
    (subst (λ (h : List Commit). HasReply answer_in (TellsJudgement h c.judge_terms-terms.result) c.judged.result) c.as_slice.ensures.value c.judged.ensures.value)
