-- How often a gate says no.
use Rattle.std.proofs.Common.{◌≡◌, ℕ, ◌+◌, Bool, false, refl, subst, add-one}
use Rattle.tt_node.specs.Gating.{SaysNo}

-- it was not asked
pub no-none : {G : Type 0} (says : G → ℕ → ℕ → Bool → G → Type 0) (worker call : ℕ) (gate : G) → SaysNo says worker call gate 0 gate
unfolding SaysNo
no-none says worker call gate = refl

-- it was asked once more
pub no-more : {G : Type 0} (says : G → ℕ → ℕ → Bool → G → Type 0) (worker call n : ℕ) (before mid after : G) (passes : Bool) → SaysNo says worker call before n mid → says mid worker call passes after → passes ≡ false
    → SaysNo says worker call before (n + 1) after
unfolding SaysNo
no-more says worker call n before mid after passes no_ said is = rw add-one (mid, no_, subst (λ b. says mid worker call b after) is said)
