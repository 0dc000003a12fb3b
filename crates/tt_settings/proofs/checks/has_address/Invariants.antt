-- No master so far has the address.
use Rattle.std.proofs.Common.{◌≡◌, drop}
use Rattle.tt_settings.specs.Check.{has_address}
use Rattle.tt_settings.proofs.checks.has_address.Given as goal

abbrev pub invariant-loop-master : goal.invariant-loop-master
invariant-loop-master l = has_address l.address (drop l.master-index l.masters) ≡ has_address l.address l.masters
