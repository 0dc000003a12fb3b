-- None of the numbers so far is it.
use Rattle.std.proofs.Common.{◌≡◌, false, take}
use Rattle.tt_telemetry.specs.Status.{is_among}
use Rattle.tt_telemetry.proofs.statuses.is_among.Given as goal

abbrev pub invariant-loop-other : goal.invariant-loop-other
invariant-loop-other l = is_among l.number (take l.other-index l.numbers) ≡ false
