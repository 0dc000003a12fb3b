use Rattle.tt_judge.proofs.Ordered.{AreTimes}
use Rattle.tt_judge.proofs.order.in_order.Given as goal

abbrev pub invariant-loop-number : goal.invariant-loop-number
invariant-loop-number l = AreTimes l.moment l.commits l.number l.order.items
