use Rattle.std.proofs.Common.{inr, refl, sym, ◌∙◌, arith}
use Rattle.std.specs.Cmp.Lexicographic.{other_text}
use Rattle.tt_shared.proofs.Copies.{one_more}
use Rattle.tt_shared.proofs.readers.copy.Goals as goal

pub loop-preserved : goal.loop-preserved
loop-preserved g c =
    one_more g.P.ReadPlace.looks c.loop.counter c.args.place.now c.loop.place c.try_copy.new.place c.in_ok-copied.copied.index c.in_ok-copied.copied.bytes c.in_ok-copied.copied.again
    c.loop.invariant c.in_ok-copied.ensures.tried (other_text c.in_ok-copied.copied.again c.in_ok-copied.copied.index (sym c.if-eq.false ∙ c.eq.ensures))

pub returns-clause-ended : goal.returns-clause-ended
returns-clause-ended g c = inr (inr (refl, (c.before.loop.counter, omega (arith, c.loop-test.false, c.before.loop.auto.counter-end), c.before.loop.invariant)))
