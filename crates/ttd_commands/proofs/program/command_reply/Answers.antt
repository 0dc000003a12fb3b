use Rattle.std.proofs.Common.{List, ℕ, subst, arith}
use Rattle.std.proofs.lemmas.Result.{err_from_is_err_and}
use Rattle.ttd_commands.specs.Answer.{answer_in}
use Rattle.ttd_commands.specs.Command.{HasReply, IsCommandReply}
use Rattle.ttd_commands.proofs.Replies.{command_replied, fault_replied}
use Rattle.ttd_commands.proofs.program.command_reply.Goals as goal

pub returns-in_err-bytes-clause-value : goal.returns-in_err-bytes-clause-value
returns-in_err-bytes-clause-value g c =
    let read = c.in_err-bytes.ensures in
    let p = err_from_is_err_and c.from_residual.result c.from_residual.ensures.1 in
    fault_replied _ c.args.command.now _ _ c.in_err-bytes.field-0.0 _ (cc (p.1, p.2)) read.faults (λ e. read.failed (cc)) (λ e. rw c.most_of.ensures.value at (read.too_long (cc))) (λ ne. read.sound (λ e. ne (cc)))

pub returns-clause-value : goal.returns-clause-value
returns-clause-value g c =
    let read = c.in_ok-bytes.ensures in
    command_replied answer_in c.args.command.now c.in_ok-bytes.bytes.items _ _ c.reply_to-reply.result read.whole (omega (arith, read.short, c.in_ok-bytes.bytes.ok.0, c.most_of.ensures.value)) read.end (read.sound (λ e. cc))
    (subst (λ (bytes : List ℕ). HasReply answer_in (IsCommandReply c.args.command.now bytes) c.reply_to-reply.result) c.as_slice-text.ensures.value c.reply_to-reply.ensures.value)
