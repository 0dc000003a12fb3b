-- No master so far has a key of one behind it.
use Rattle.std.proofs.Common.{◌≡◌, drop}
use Rattle.tt_settings.specs.Check.{has_same_key}
use Rattle.tt_settings.proofs.checks.has_same_key.Given as goal

abbrev pub invariant-loop-place : goal.invariant-loop-place
invariant-loop-place l = has_same_key (drop l.place l.masters) ≡ has_same_key l.masters
