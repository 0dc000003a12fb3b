use Rattle.std.proofs.Common.{◌≡◌, ℕ, List, Some, None, refl, subst}
use Rattle.std.specs.Prelude.{slice_index_or}
use Rattle.tt_rounds.specs.Sockets.{SendsOut}
use Rattle.tt_rounds.proofs.Hearing.{sends-nothing, sends-packet}
use Rattle.tt_rounds.proofs.round_links.Hearing.send.Goals as goal

pub returns-in_default-clause-sends : goal.returns-in_default-clause-sends
returns-in_default-clause-sends g c =
    sends-nothing g.S.PacketSocket.does _ _ _ _ _ _ _ _ _ c.begin_once.ensures.looks c.outgoing.ensures.value c.begin_once.ensures.wire cc

pub returns-in-None-clause-sends : goal.returns-in-None-clause-sends
returns-in-None-clause-sends g c =
    let some : c.outgoing.result ≡ Some c.in-Some.packet = cc in
    let at : None ≡ slice_index_or c.begin_once.new.self.hosts.addresses.items c.args.peer None = cc in
    let place : c.begin_once.new.self.hosts.addresses.items ≡ c.args.self.now.hosts.addresses.items = cc in
    sends-packet g.S.PacketSocket.does _ _ _ _ _ _ _ _ _ _ _ c.in-Some.packet _ None c.begin_once.ensures.looks c.outgoing.ensures.value c.begin_once.ensures.wire some at place c.begin_once.ensures.six refl

pub returns-in-Some-address-clause-sends : goal.returns-in-Some-address-clause-sends
returns-in-Some-address-clause-sends g c =
    let some : c.outgoing.result ≡ Some c.in-Some.packet = cc in
    let at : Some c.in-Some-address.address ≡ slice_index_or c.begin_once.new.self.hosts.addresses.items c.args.peer None = cc in
    let place : c.begin_once.new.self.hosts.addresses.items ≡ c.args.self.now.hosts.addresses.items = cc in
    let bytes : c.deref.result.now ≡ c.in-Some.packet.items = cc in
    let sent = subst (λ (b : List ℕ). SendsOut g.S.PacketSocket.does c.begin_once.new.self.hosts.is_six (Some b) (Some c.in-Some-address.address) c.begin_once.new.self.hosts.socket c.send.new.self.socket) bytes c.send.ensures.sends in
    sends-packet g.S.PacketSocket.does _ _ _ _ _ _ _ _ _ _ _ c.in-Some.packet _ (Some c.in-Some-address.address) c.begin_once.ensures.looks c.outgoing.ensures.value c.begin_once.ensures.wire some at place c.begin_once.ensures.six sent
