use Rattle.std.proofs.Common.{◌∙◌, ◌++◌, List, [], ◌∷◌, take, ap, sym, append_assoc, arith}
use Rattle.tt_stamp.specs.declared.commits.Receipt.{Receipt}
use Rattle.tt_world.proofs.Simulation.Passing.{one-more, no-other}
use Rattle.tt_world.proofs.machines.copy_receipts.Goals as goal

pub loop-entry-preserved-in_default : goal.loop-entry-preserved-in_default
loop-entry-preserved-in_default c = record {
  room = omega (arith, c.loop-entry.invariant.room, c.loop-entry-test.true);
  added = λ passed all. absurd (no-other c.args.entries.now passed c.loop-entry.entry-index _ c.in_default.field-0 c.in_default.field-1 (record { id = c.in_default.field-0; stamp = 0; earliest = 0 }) c.loop-entry-test.true all c.in_default.is);
}

pub loop-entry-preserved : goal.loop-entry-preserved
loop-entry-preserved c = record {
  room = omega (arith, c.loop-entry.invariant.room, c.loop-entry-test.true, c.push_reserved.ensures.len, c.push_reserved.ensures.capacity);
  added = λ passed all.
      c.push_reserved.ensures.items
      ∙ ap (λ (rs : List Receipt). rs ++ c.in-Passed.receipt ∷ []) (c.loop-entry.invariant.added passed all)
      ∙ append_assoc c.args.receipts.now.items (take c.loop-entry.entry-index passed) (c.in-Passed.receipt ∷ [])
      ∙ ap (λ (rs : List Receipt). c.args.receipts.now.items ++ rs) (sym (one-more c.args.entries.now passed c.loop-entry.entry-index _ c.in-Passed.receipt c.loop-entry-test.true all c.in-Passed.is));
}
