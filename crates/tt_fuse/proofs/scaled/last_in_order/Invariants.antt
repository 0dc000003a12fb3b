use Rattle.std.proofs.Common.{ℕ, ◌-◌, ◌<◌, ◌≤◌, length}
use Rattle.tt_fuse.specs.Scaled.{AreOrderedAt}
use Rattle.tt_fuse.proofs.scaled.last_in_order.Given as goal

-- none of the pairs from behind so far is in order
abbrev pub invariant-loop-last : goal.invariant-loop-last
invariant-loop-last l = record { from : l.first ≤ l.last; within : l.last < length l.starts; after : (k : ℕ) → l.last < k → k < length l.starts → AreOrderedAt l.drift l.clock l.starts l.ends k → ⊥ }

abbrev pub decreases-loop-last : goal.decreases-loop-last
decreases-loop-last l = l.last - l.first
