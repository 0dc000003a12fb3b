-- No number so far stands among those behind it.
use Rattle.std.proofs.Common.{◌≡◌, drop}
use Rattle.tt_settings.specs.Master.{has_twice}
use Rattle.tt_settings.proofs.masters.has_twice.Given as goal

abbrev pub invariant-loop-place : goal.invariant-loop-place
invariant-loop-place l = has_twice (drop l.place l.numbers) ≡ has_twice l.numbers
