use Rattle.std.proofs.Common.{◌≡◌, ℕ, List, ◌∷◌, take, Option, Some, ◌∙◌, sym, ap, subst}
use Rattle.tt_rounds.specs.Hearing.{Arrived, Heard, heard_from, Drops}
use Rattle.tt_rounds.specs.Link.{Packet}
use Rattle.tt_rounds.specs.declared.awaiting.PeerTable.{PeerTable}
use Rattle.tt_rounds.proofs.Hearing.{heard-none, Looks-once, gave-last, Reads-empty, Reads-failed, Reads-more}
use Rattle.tt_rounds.proofs.round_links.drain.Goals as goal
use Rattle.tt_rounds.proofs.round_links.drain.Goals.{in-Came+in_default, in-Again}

pub loop-preserved : goal.loop-preserved
loop-preserved g c = record {
  whole = c.loop.invariant.whole;
  drops =
      elim c.match-look.branch [
        | in-Came+in_default w ↦
            let bytes : List ℕ = take w.in-Came.length c.look.new.buffer in
            let none = heard-none (heard_from c.args.wire.now c.loop.table w.in-Came.from bytes) _ w.hear.result c.match-look.table w.hear.ensures.handed w.in_default.is (w.table-is ∙ w.hear.ensures.after) in
            (record { from = w.in-Came.from; bytes = bytes } ∷ c.loop.invariant.drops.0, (c.loop.table, c.loop.invariant.drops.1, none))
        | in-Again w ↦ subst (λ (t : PeerTable). (dropped : List Arrived) × Drops c.args.wire.now dropped c.args.table.now t) (sym w.table-is) c.loop.invariant.drops
      ];
  looks = Looks-once g.S.PacketSocket.does _ _ _ _ _ _ c.loop.invariant.looks c.look.ensures.looks;
  addresses = c.look.ensures.addresses ∙ c.loop.invariant.addresses;
  six = c.look.ensures.six ∙ c.loop.invariant.six;
}

-- what was heard, by its parts
heard-parts : (heard : Heard) (handed : Option Packet) (table : PeerTable) → heard.handed ≡ handed → heard.table ≡ table → heard ≡ record { handed = handed; table = table }
heard-parts heard handed table one other = ap (λ (h : Option Packet). record { handed = h; table = heard.table }) one ∙ ap (λ (t : PeerTable). record { handed = handed; table = t }) other

pub returns-in-Some-clause-reads : goal.returns-in-Some-clause-reads
returns-in-Some-clause-reads g c =
    let bytes : List ℕ = take c.in-Came.length c.look.new.buffer in
    let front : c.in-Some.message.items ≡ take c.put.result c.put.new.buffer = cc in
    let handed : (heard_from c.args.wire.now c.loop.table c.in-Came.from bytes).handed ≡ Some (record { peer = c.in-Some.peer; bytes = take c.put.result c.put.new.buffer }) =
    c.in-Some.ensures.handed ∙ ap (λ (items : List ℕ). Some (record { peer = c.in-Some.peer; bytes = items })) front in
    let heard = heard-parts (heard_from c.args.wire.now c.loop.table c.in-Came.from bytes) (Some (record { peer = c.in-Some.peer; bytes = take c.put.result c.put.new.buffer })) c.hear.new.self handed (sym c.hear.ensures.after) in
    record {
      dropped = c.loop.invariant.drops.0;
      table = c.loop.table;
      bytes = bytes;
      drops = c.loop.invariant.drops.1;
      last = (c.in-Some.ensures.small, subst (λ (from : Option ℕ). heard_from c.args.wire.now c.loop.table from bytes ≡ record { handed = Some (record { peer = c.in-Some.peer; bytes = take c.put.result c.put.new.buffer }); table = c.hear.new.self }) c.in-Some.ensures.sender heard);
      gives = gave-last g.S.PacketSocket.does c.args.hosts.now.addresses.items c.loop.hosts.addresses.items c.args.hosts.now.socket c.loop.hosts.socket c.look.new.self.socket c.look.result c.in-Came.from c.in-Came.length c.in-Some.peer c.look.new.buffer
          c.loop.invariant.looks c.look.ensures.looks (cc) (cc) c.in-Some.ensures.sender;
    }

pub returns-in-Nothing-clause-reads : goal.returns-in-Nothing-clause-reads
returns-in-Nothing-clause-reads g c =
    Reads-empty g.S.PacketSocket.does _ _ _ _ _ _ _ c.loop.invariant.drops.0 c.loop.invariant.drops.1 (Looks-once g.S.PacketSocket.does _ _ _ _ _ _ c.loop.invariant.looks c.look.ensures.looks)

pub returns-in-Failed-clause-reads : goal.returns-in-Failed-clause-reads
returns-in-Failed-clause-reads g c =
    Reads-failed g.S.PacketSocket.does _ _ _ _ _ _ _ c.loop.invariant.drops.0 c.loop.invariant.drops.1 (Looks-once g.S.PacketSocket.does _ _ _ _ _ _ c.loop.invariant.looks c.look.ensures.looks)

pub returns-clause-reads : goal.returns-clause-reads
returns-clause-reads g c = Reads-more g.S.PacketSocket.does _ _ _ _ _ _ _ c.loop.invariant.drops.0 c.loop.invariant.drops.1 c.loop.invariant.looks
