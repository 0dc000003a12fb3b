-- The keys of the masters so far were found.
use Rattle.std.proofs.Common.{◌≡◌, drop, map}
use Rattle.tt_wire.specs.Wire.{keys_in}
use Rattle.tt_server.specs.Ring.{rings_of}
use Rattle.tt_server.proofs.Ringing.{after}
use Rattle.tt_server.proofs.rings.rings_of.Given as goal

abbrev pub invariant-loop-master : goal.invariant-loop-master
invariant-loop-master l = rings_of l.keys l.masters ≡ after (map keys_in l.rings.items) (rings_of l.keys (drop l.master-index l.masters))
