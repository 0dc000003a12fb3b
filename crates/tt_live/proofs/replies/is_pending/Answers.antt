use Rattle.tt_live.proofs.Answering.{named_of_pending, pending_of}
use Rattle.tt_live.proofs.replies.is_pending.Goals as goal

pub returns-in-Some : goal.returns-in-Some
returns-in-Some c = (
  λ is. pending_of c.args.line.now c.args.reply.now c.in-Some.number c.in-Some._floor c.in-Some.ensures (c.names.ensures.0 is),
  λ pending. c.names.ensures.1 (named_of_pending c.args.line.now c.args.reply.now c.in-Some.number c.in-Some._floor c.in-Some.ensures pending),
)
