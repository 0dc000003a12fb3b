use Rattle.tt_judge.specs.TermSweep.{IsSwept}
use Rattle.tt_judge.proofs.TermSweeping.{AreConflictsSoFar}
use Rattle.tt_judge.proofs.terms.conflicts_in_order.Given as goal

abbrev pub invariant-loop-place : goal.invariant-loop-place
invariant-loop-place l = record {
  swept : IsSwept l.rule l.commits l.place l.leaders;
  judged : AreConflictsSoFar l.rule l.commits l.place l.count l.first;
}
