use Rattle.std.proofs.Common.{◌≡◌}
use Rattle.tt_tests.proofs.races.seat_gives.Given as goal

abbrev pub invariant-loop-latest : goal.invariant-loop-latest
invariant-loop-latest g l = l.seat.table ≡ l.sequencer
