use Rattle.std.proofs.Common.{length, ◌-◌, ◌<◌, ℕ}
use Rattle.tt_judge.specs.Order.{entry_at}
use Rattle.tt_judge.specs.Sweep.{IsPassed}
use Rattle.tt_judge.proofs.judging.pass.Given as goal

abbrev pub invariant-loop-count : goal.invariant-loop-count
invariant-loop-count l = record {
  passed : IsPassed l.commits l.endings l.count l.greatest;
  before : (place : ℕ) → place < l.count → (entry_at l.endings place).0 < l.time;
}

abbrev pub decreases-loop-count : goal.decreases-loop-count
decreases-loop-count l = length l.endings - l.count
