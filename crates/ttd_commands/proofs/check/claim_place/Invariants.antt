use Rattle.std.proofs.Common.{ℕ, ◌<◌}
use Rattle.ttd_commands.specs.Check.{IsClaimLine}
use Rattle.ttd_commands.proofs.check.claim_place.Given as goal

abbrev pub invariant-loop-at : goal.invariant-loop-at
invariant-loop-at l = (k : ℕ) → k < l.at → IsClaimLine l.text k → ⊥
