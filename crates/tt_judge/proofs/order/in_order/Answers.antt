use Rattle.std.proofs.Common.{◌≡◌, ℕ, length, subst, arith}
use Rattle.tt_judge.proofs.Ordered.{AreTimes, AreTimes-push, IsOrderOf-sorted}
use Rattle.tt_judge.proofs.order.in_order.Goals as goal

pub loop-number-preserved : goal.loop-number-preserved
loop-number-preserved c =
    rw c.in_ok-push.ensures.items
    (AreTimes-push c.args.moment c.args.commits.now c.loop-number.number c.time_of.result c.loop-number.order.items c.loop-number.invariant c.time_of.ensures)

pub returns : goal.returns
returns c =
    let at_end : c.loop-number.number ≡ length c.args.commits.now = omega arith in
    IsOrderOf-sorted c.args.moment c.args.commits.now c.loop-number.order.items c.sort_unstable.new.self.items
    (subst (λ (n : ℕ). AreTimes c.args.moment c.args.commits.now n c.loop-number.order.items) at_end c.loop-number.invariant)
    c.sort_unstable.ensures.permutation c.sort_unstable.ensures.sorted
