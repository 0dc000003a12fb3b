use Rattle.std.proofs.Common.{◌≡◌, Option, None, Result, Err, ap, subst}
use Rattle.tt_rounds.specs.Sockets.{Datagram, Gave, gave_as}
use Rattle.tt_rounds.proofs.Hearing.{LooksOnce-code}
use Rattle.tt_rounds.proofs.hosts.Hosts.look.Goals as goal

pub returns-in-Err-clause-looks : goal.returns-in-Err-clause-looks
returns-in-Err-clause-looks g c =
    let none : gave_as c.next_packet.result c.next_packet.new.buffer ≡ None = ap (λ r. gave_as r c.next_packet.new.buffer) c.in-Err.is in
    let did = subst (λ (gave : Option Datagram). g.S.PacketSocket.does c.args.self.now.socket (Gave gave) c.next_packet.new.self) none c.next_packet.ensures.did in
    rw c.look_of.ensures.value (LooksOnce-code g.S.PacketSocket.does c.args.self.now.addresses.items c.args.self.now.socket c.next_packet.new.self c.in-Err.code c.next_packet.new.buffer did)
