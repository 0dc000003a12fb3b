-- Those of the masters so far that have a name.
use Rattle.std.proofs.Common.{◌≡◌, ◌++◌, drop, map}
use Rattle.tt_server.specs.Name.{named_as, named_from}
use Rattle.tt_server.proofs.names.named_in.Given as goal

abbrev pub invariant-loop-place : goal.invariant-loop-place
invariant-loop-place l = named_from 0 l.masters ≡ map named_as l.named.items ++ named_from l.place (drop l.place l.masters)
