-- None of the masters so far has a name.
use Rattle.std.proofs.Common.{◌≡◌, false, take}
use Rattle.tt_server.specs.Name.{has_names}
use Rattle.tt_server.proofs.names.has_names.Given as goal

abbrev pub invariant-loop-master : goal.invariant-loop-master
invariant-loop-master l = has_names (take l.master-index l.masters) ≡ false
