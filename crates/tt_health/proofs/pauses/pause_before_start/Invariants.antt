-- The pause was doubled so far.
use Rattle.std.proofs.Common.{◌≡◌, ◌≤◌}
use Rattle.tt_health.specs.Pause.{doubled, longest_pause}
use Rattle.tt_health.proofs.pauses.pause_before_start.Given as goal

abbrev pub invariant-loop-doubling : goal.invariant-loop-doubling
invariant-loop-doubling l =
    record {
      value : l.pause ≡ doubled l._doubling;
      bound : l.pause ≤ longest_pause;
    }
