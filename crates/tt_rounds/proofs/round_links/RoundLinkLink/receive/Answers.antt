use Rattle.std.proofs.Common.{◌≡◌}
use Rattle.tt_rounds.specs.declared.round_links.Drained.TheVariants.{Handed, Empty, More, Failed}
use Rattle.tt_rounds.proofs.Hearing.{does-receive, gift_of, receives}
use Rattle.tt_rounds.proofs.round_links.RoundLinkLink.receive.Goals as goal

pub returns-in-Handed-clause-did : goal.returns-in-Handed-clause-did
returns-in-Handed-clause-did g c =
    let is : c.next.result ≡ Handed c.in-Handed.peer c.in-Handed.length = cc in
    let place : c.next.new.self.hosts.addresses.items ≡ c.args.self.now.hearing.hosts.addresses.items = cc in
    does-receive g.S.PacketSocket.does _ _ _ _ _ _ c.args.self.now.hearing.hosts.socket c.next.new.self.hosts.socket (gift_of (Handed c.in-Handed.peer c.in-Handed.length) c.next.new.buffer) (receives g.S.PacketSocket.does _ _ _ _ _ _ _ _ _ is c.next.ensures.reads) c.next.ensures.wire place c.next.ensures.six

pub returns-in-Empty-clause-did : goal.returns-in-Empty-clause-did
returns-in-Empty-clause-did g c =
    let is : c.next.result ≡ Empty = cc in
    let place : c.next.new.self.hosts.addresses.items ≡ c.args.self.now.hearing.hosts.addresses.items = cc in
    does-receive g.S.PacketSocket.does _ _ _ _ _ _ c.args.self.now.hearing.hosts.socket c.next.new.self.hosts.socket (gift_of Empty c.next.new.buffer) (receives g.S.PacketSocket.does _ _ _ _ _ _ _ _ _ is c.next.ensures.reads) c.next.ensures.wire place c.next.ensures.six

pub returns-in-More-clause-did : goal.returns-in-More-clause-did
returns-in-More-clause-did g c =
    let is : c.next.result ≡ More = cc in
    let place : c.next.new.self.hosts.addresses.items ≡ c.args.self.now.hearing.hosts.addresses.items = cc in
    does-receive g.S.PacketSocket.does _ _ _ _ _ _ c.args.self.now.hearing.hosts.socket c.next.new.self.hosts.socket (gift_of More c.next.new.buffer) (receives g.S.PacketSocket.does _ _ _ _ _ _ _ _ _ is c.next.ensures.reads) c.next.ensures.wire place c.next.ensures.six

pub returns-in-Failed-clause-did : goal.returns-in-Failed-clause-did
returns-in-Failed-clause-did g c =
    let is : c.next.result ≡ Failed = cc in
    let place : c.next.new.self.hosts.addresses.items ≡ c.args.self.now.hearing.hosts.addresses.items = cc in
    rw (c.fault.ensures.hosts, c.fault.ensures.wire)
    (does-receive g.S.PacketSocket.does _ _ _ _ _ _ c.args.self.now.hearing.hosts.socket c.next.new.self.hosts.socket (gift_of Failed c.next.new.buffer) (receives g.S.PacketSocket.does _ _ _ _ _ _ _ _ _ is c.next.ensures.reads) c.next.ensures.wire place c.next.ensures.six)
