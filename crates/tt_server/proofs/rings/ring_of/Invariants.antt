-- The keys so far were found.
use Rattle.std.proofs.Common.{◌≡◌, drop}
use Rattle.tt_server.specs.Ring.{ring_of}
use Rattle.tt_server.proofs.Ringing.{after}
use Rattle.tt_server.proofs.rings.ring_of.Given as goal

abbrev pub invariant-loop-number : goal.invariant-loop-number
invariant-loop-number l = ring_of l.keys l.numbers ≡ after l.ring.items (ring_of l.keys (drop l.number-index l.numbers))
