use Rattle.std.proofs.Common.{arith}
use Rattle.std.proofs.lemmas.Bool.{leb-true, le-leb}
use Rattle.std.specs.Prelude.{codes}
use Rattle.tt_live.proofs.Answering.{same_only}
use Rattle.tt_live.proofs.replies.is_refusal.Goals as goal

pub returns-in-Some : goal.returns-in-Some
returns-in-Some c = (
  λ is. (c.in-Some.number, omega (arith, leb-true c.in-Some.number c.from.result is, c.from.ensures), c.in-Some.ensures.is),
  λ (number, fits, told).
      let same = same_only (codes "refused") c.args.reply.now c.in-Some.number number c.in-Some.ensures (omega (arith, fits)) told in
      le-leb c.in-Some.number c.from.result (omega (arith, same, fits, c.from.ensures)),
)
