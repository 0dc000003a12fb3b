-- One more try that met another publication.
use Rattle.std.proofs.Common.{◌≡◌, ◌≢◌, ℕ, suc, ◌+◌, List, subst, arith}
use Rattle.tt_shared.specs.Looking.{Look, Tries, Meets}

pub one_more : {P : Type 0} (looks : P → Look → P → Type 0) (k : ℕ) (before mid after : P) (index bytes again : List ℕ) → Meets looks k before mid → Tries looks mid index bytes again after → again ≢ index → Meets looks (k + 1) before after
one_more {P} looks k before mid after index bytes again met tried other =
    let next : suc k ≡ k + 1 = omega arith in
    subst (λ (n : ℕ). Meets looks n before after) next (mid, index, bytes, again, met, tried, other)
