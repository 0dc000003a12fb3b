-- None of the masters so far has an address of IPv4.
use Rattle.std.proofs.Common.{◌≡◌, false, take}
use Rattle.std.specs.List.{list_any}
use Rattle.tt_server.specs.Own.{has_four}
use Rattle.tt_server.proofs.owns.has_four.Given as goal

abbrev pub invariant-loop-master : goal.invariant-loop-master
invariant-loop-master l = list_any has_four (take l.master-index l.masters) ≡ false
