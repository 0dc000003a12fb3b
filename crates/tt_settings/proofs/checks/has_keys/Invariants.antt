-- No master so far has a key.
use Rattle.std.proofs.Common.{◌≡◌, drop}
use Rattle.tt_settings.specs.Check.{has_keys}
use Rattle.tt_settings.proofs.checks.has_keys.Given as goal

abbrev pub invariant-loop-master : goal.invariant-loop-master
invariant-loop-master l = has_keys (drop l.master-index l.masters) ≡ has_keys l.masters
