use Rattle.std.proofs.Common.{◌≤◌, ◌-◌, length}
use Rattle.tt_cert.specs.Sweep.{count_before}
use Rattle.tt_cert.proofs.sweeping.passed.Given as goal

abbrev pub invariant-loop-count : goal.invariant-loop-count
invariant-loop-count l = l.count ≤ count_before l.ends l.x

abbrev pub decreases-loop-count : goal.decreases-loop-count
decreases-loop-count l = length l.initial.ends - l.count
