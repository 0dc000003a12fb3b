use Rattle.std.proofs.Common.{◌≡◌}
use Rattle.tt_tests.proofs.races.draw.Given as goal

abbrev pub invariant-loop : goal.invariant-loop
invariant-loop g l = l.seat.table ≡ l.sequencer
