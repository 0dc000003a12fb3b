use Rattle.std.proofs.Common.{◌≡◌, ◌∙◌}
use Rattle.tt_rounds.proofs.Hearing.{Looks-once}
use Rattle.tt_rounds.proofs.round_links.Hearing.begin.Goals as goal
use Rattle.tt_rounds.proofs.round_links.Hearing.begin.Goals.{else-loop-test, then-loop-test+in-Nothing}

pub loop-preserved : goal.loop-preserved
loop-preserved g c = record {
  table = c.loop.invariant.table;
  wire = c.loop.invariant.wire;
  looks = Looks-once g.S.PacketSocket.does _ _ _ _ _ _ c.loop.invariant.looks c.look.ensures.looks;
  addresses = c.look.ensures.addresses ∙ c.loop.invariant.addresses;
  six = c.look.ensures.six ∙ c.loop.invariant.six;
}

pub returns-clause-looks : goal.returns-clause-looks
returns-clause-looks g c =
    elim c.loop-test.branch [
      | else-loop-test w ↦ rw w.self-is c.loop.invariant.looks
      | then-loop-test+in-Nothing w ↦ rw w.self-is (Looks-once g.S.PacketSocket.does _ _ _ _ _ _ c.loop.invariant.looks w.look.ensures.looks)
    ]
