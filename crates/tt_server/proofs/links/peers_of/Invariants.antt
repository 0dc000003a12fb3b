-- The addresses of the masters so far.
use Rattle.std.proofs.Common.{◌≡◌, map, take}
use Rattle.tt_settings.specs.Master.{Master}
use Rattle.tt_settings.specs.Socket.{address_of}
use Rattle.tt_server.proofs.links.peers_of.Given as goal

abbrev pub invariant-loop-master : goal.invariant-loop-master
invariant-loop-master l = l.peers.items ≡ map (λ (m : Master). address_of m.address) (take l.master-index l.masters)
