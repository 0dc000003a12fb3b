use Rattle.std.proofs.Common.{◌-◌}
use Rattle.tt_cert.proofs.Passing.{IsSwept}
use Rattle.tt_cert.proofs.sweeping.cut_stretches.Given as goal

abbrev pub invariant-loop-from : goal.invariant-loop-from
invariant-loop-from l = IsSwept l.lows l.highs l.start l.stop l.begun l.ended l.from l.found

abbrev pub decreases-loop-from : goal.decreases-loop-from
decreases-loop-from l = l.stop - l.from
