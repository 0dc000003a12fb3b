use Rattle.std.proofs.Common.{◌≡◌, ◌+◌, ◌-◌, ◌≤◌, List, ◌++◌, length, map, take}
use Rattle.std.specs.Vec.{vec_len, vec_capacity}
use Rattle.tt_stamp.specs.declared.commits.Entry.TheVariants.{Passed}
use Rattle.tt_stamp.specs.declared.commits.Receipt.{Receipt}
use Rattle.tt_world.proofs.machines.copy_receipts.Given as goal

-- there is room for the receipts of the entries that are left, and those so far were added
abbrev pub invariant-loop-entry : goal.invariant-loop-entry
invariant-loop-entry l = record {
  room : vec_len l.receipts + (length l.entries - l.entry-index) ≤ vec_capacity l.receipts;
  added : (passed : List Receipt) → l.entries ≡ map (λ receipt. Passed receipt) passed → l.receipts.items ≡ l.initial.receipts.items ++ take l.entry-index passed;
}
