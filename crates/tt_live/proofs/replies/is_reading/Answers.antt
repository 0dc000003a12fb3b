use Rattle.std.proofs.Common.{◌∙◌, sym}
use Rattle.tt_live.proofs.Answering.{reading_of, ends_of_reading}
use Rattle.tt_live.proofs.replies.is_reading.Goals as goal

pub returns-in-Some : goal.returns-in-Some
returns-in-Some c = (
  λ is. reading_of c.args.reply.now c.in-Some.lo c.in-Some.hi c.in-Some.ensures (c.new.ensures.taken.0 (sym c.is_ok.ensures.value ∙ is)),
  λ told. c.is_ok.ensures.value ∙ c.new.ensures.taken.1 (ends_of_reading c.args.reply.now c.in-Some.lo c.in-Some.hi c.in-Some.ensures told),
)
