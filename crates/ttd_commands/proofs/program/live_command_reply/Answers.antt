use Rattle.std.proofs.Common.{List, ℕ, subst, arith}
use Rattle.std.proofs.lemmas.Result.{err_from_is_err_and}
use Rattle.ttd_words.specs.declared.requests.Command.TheVariants.{Live}
use Rattle.ttd_commands.specs.Answer.{answer_in}
use Rattle.ttd_commands.specs.Command.{HasReply, IsCommandReply}
use Rattle.ttd_commands.proofs.Replies.{command_replied, fault_replied}
use Rattle.ttd_commands.proofs.program.live_command_reply.Goals as goal

pub returns-in_err-bytes-clause-value : goal.returns-in_err-bytes-clause-value
returns-in_err-bytes-clause-value g c =
    let read = c.in_err-bytes.ensures in
    let p = err_from_is_err_and c.from_residual.result c.from_residual.ensures.1 in
    fault_replied _ Live _ _ c.in_err-bytes.field-0.0 _ (cc (p.1, p.2)) read.faults (λ e. read.failed (cc)) (λ e. read.too_long (cc)) (λ ne. read.sound (λ e. ne (cc)))

pub returns-clause-value : goal.returns-clause-value
returns-clause-value g c =
    let read = c.in_ok-bytes.ensures in
    command_replied answer_in Live c.in_ok-bytes.bytes.items _ _ c.live_reply-reply.result read.whole (omega (arith, read.short, c.in_ok-bytes.bytes.ok.0)) read.end (read.sound (λ e. cc))
    (subst (λ (bytes : List ℕ). HasReply answer_in (IsCommandReply Live bytes) c.live_reply-reply.result) c.as_slice-text.ensures.value c.live_reply-reply.ensures.value)
