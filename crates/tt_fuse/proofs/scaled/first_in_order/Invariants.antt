use Rattle.std.proofs.Common.{ℕ, ◌-◌, ◌<◌, ◌≤◌, length}
use Rattle.tt_fuse.specs.Scaled.{AreOrderedAt}
use Rattle.tt_fuse.proofs.scaled.first_in_order.Given as goal

-- none of the pairs so far is in order
abbrev pub invariant-loop-first : goal.invariant-loop-first
invariant-loop-first l = record { within : l.first ≤ length l.starts; before : (k : ℕ) → k < l.first → AreOrderedAt l.drift l.clock l.starts l.ends k → ⊥ }

abbrev pub decreases-loop-first : goal.decreases-loop-first
decreases-loop-first l = length l.starts - l.first
