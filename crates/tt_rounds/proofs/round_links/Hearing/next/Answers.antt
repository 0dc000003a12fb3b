use Rattle.std.proofs.Common.{◌≡◌, true, List, Option, ◌∙◌, ap}
use Rattle.std.specs.declared.net.socket_addr.SocketAddr.{SocketAddr}
use Rattle.tt_rounds.specs.RoundLinks.{goes_on}
use Rattle.tt_rounds.specs.declared.awaiting.PeerTable.{PeerTable}
use Rattle.tt_rounds.proofs.Hearing.{Drops-slots, Drops-more, Looks-more, Reads-same, Reads-after, Reads-empty, Reads-failed}
use Rattle.tt_rounds.proofs.round_links.Hearing.next.Goals as goal
use Rattle.tt_rounds.proofs.round_links.Hearing.next.Goals.{else-eq-via-then-eq+else-not-pause, else-eq-via-else-eq}

pub returns-then-self-clause-reads : goal.returns-then-self-clause-reads
returns-then-self-clause-reads g c =
    Reads-empty g.S.PacketSocket.does _ _ _ _ _ _ _ c.loop.invariant.drops.0 c.loop.invariant.drops.1 c.loop.invariant.looks

pub returns-then-not-goes_on-clause-reads : goal.returns-then-not-goes_on-clause-reads
returns-then-not-goes_on-clause-reads g c =
    let place : c.loop.self.hosts.addresses.items ≡ c.args.self.now.hosts.addresses.items = cc in
    let reads = Reads-same g.S.PacketSocket.does _ _ _ _ _ _ _ _ _ _ place c.loop.invariant.wire c.drain-drained.ensures.reads in
    Reads-after g.S.PacketSocket.does _ _ _ _ _ _ _ _ _ _ c.loop.invariant.drops.0 c.loop.invariant.drops.1 c.loop.invariant.looks reads

pub returns-in_default-clause-reads : goal.returns-in_default-clause-reads
returns-in_default-clause-reads g c =
    let on : goes_on c.drain-drained.result ≡ true = cc in
    let place : c.loop.self.hosts.addresses.items ≡ c.args.self.now.hosts.addresses.items = cc in
    let reads = Reads-same g.S.PacketSocket.does _ _ _ _ _ _ _ _ _ _ place c.loop.invariant.wire c.drain-drained.ensures.reads in
    let drops = Drops-more g.S.PacketSocket.does _ _ _ _ _ _ _ _ _ c.loop.invariant.drops reads on in
    Reads-empty g.S.PacketSocket.does _ _ _ _ _ _ _ drops.0 drops.1 (Looks-more g.S.PacketSocket.does _ _ _ _ _ _ c.loop.invariant.looks reads.gives on)

pub returns-then-not-pause-clause-reads : goal.returns-then-not-pause-clause-reads
returns-then-not-pause-clause-reads g c =
    let on : goes_on c.drain-drained.result ≡ true = cc in
    let place : c.loop.self.hosts.addresses.items ≡ c.args.self.now.hosts.addresses.items = cc in
    let reads = Reads-same g.S.PacketSocket.does _ _ _ _ _ _ _ _ _ _ place c.loop.invariant.wire c.drain-drained.ensures.reads in
    let drops = Drops-more g.S.PacketSocket.does _ _ _ _ _ _ _ _ _ c.loop.invariant.drops reads on in
    rw (c.pause.ensures.table, c.pause.ensures.hosts)
    (Reads-failed g.S.PacketSocket.does _ _ _ _ _ _ _ drops.0 drops.1 (Looks-more g.S.PacketSocket.does _ _ _ _ _ _ c.loop.invariant.looks reads.gives on))

pub returns-clause-reads : goal.returns-clause-reads
returns-clause-reads g c =
    Reads-empty g.S.PacketSocket.does _ _ _ _ _ _ _ c.loop.invariant.drops.0 c.loop.invariant.drops.1 c.loop.invariant.looks

pub loop-preserved : goal.loop-preserved
loop-preserved g c =
    let on : goes_on c.drain-drained.result ≡ true = cc in
    let place : c.loop.self.hosts.addresses.items ≡ c.args.self.now.hosts.addresses.items = cc in
    let reads = Reads-same g.S.PacketSocket.does _ _ _ _ _ _ _ _ _ _ place c.loop.invariant.wire c.drain-drained.ensures.reads in
    let drops = Drops-more g.S.PacketSocket.does _ _ _ _ _ _ _ _ _ c.loop.invariant.drops reads on in
    let looks = Looks-more g.S.PacketSocket.does _ _ _ _ _ _ c.loop.invariant.looks reads.gives on in
    let slots = Drops-slots c.args.self.now.wire drops.0 c.args.self.now.table c.drain-drained.new.table drops.1 in
    elim c.else-eq.branch [
      | else-eq-via-then-eq+else-not-pause w ↦ rw w.self-is (record {
        whole = c.drain-drained.ensures.whole;
        wire = w.pause.ensures.wire ∙ c.loop.invariant.wire;
        drops = rw w.pause.ensures.table drops;
        looks = rw w.pause.ensures.hosts looks;
        addresses = rw w.pause.ensures.hosts (c.drain-drained.ensures.addresses ∙ c.loop.invariant.addresses);
        six = rw w.pause.ensures.hosts (c.drain-drained.ensures.six ∙ c.loop.invariant.six);
        slots = ap (λ (t : PeerTable). t.slots) w.pause.ensures.table ∙ slots;
        woken = λ is. w.pause.ensures.woken (c.loop.invariant.woken is);
      })
      | else-eq-via-else-eq w ↦ rw w.self-is (record {
        whole = c.drain-drained.ensures.whole;
        wire = c.loop.invariant.wire;
        drops = drops;
        looks = looks;
        addresses = c.drain-drained.ensures.addresses ∙ c.loop.invariant.addresses;
        six = c.drain-drained.ensures.six ∙ c.loop.invariant.six;
        slots = slots;
        woken = c.loop.invariant.woken;
      })
    ]
