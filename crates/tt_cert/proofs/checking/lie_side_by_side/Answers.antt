use Rattle.std.proofs.Common.{arith}
use Rattle.std.proofs.lemmas.Bool.{false≢true}
use Rattle.tt_cert.proofs.Sides.{next-AreSideBySide}
use Rattle.tt_cert.proofs.checking.lie_side_by_side.Goals as goal
use Rattle.tt_cert.proofs.checking.lie_side_by_side.Goals.{then-stretch-next-via-then-stretch-next, then-stretch-next-via-else-stretch-next+then-stretch, then-stretch-next-via-else-stretch-next+else-stretch+then-stretch-stop}

pub returns-then-stretch-next : goal.returns-then-stretch-next
returns-then-stretch-next c = (
  λ t. absurd (false≢true t),
  λ all.
      let h = next-AreSideBySide c.args.stretches.now c.loop-stretch.stretch-index c.loop-stretch.next c.args.stop c.loop-stretch-test.true (c.loop-stretch.invariant.1 all) (record { from = 0; to = 0; depth = 0 }) in
      elim c.then-stretch-next.branch [
        | then-stretch-next-via-then-stretch-next w ↦ grind (arith, h)
        | then-stretch-next-via-else-stretch-next+then-stretch w ↦ grind (arith, h)
        | then-stretch-next-via-else-stretch-next+else-stretch+then-stretch-stop w ↦ grind (arith, h)
      ],
)
