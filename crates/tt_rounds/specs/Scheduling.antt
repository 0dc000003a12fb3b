-- How long a daemon goes on.
use Rattle.std.specs.Prelude.{◌≡◌, ℕ, zero, suc, ◌⊎◌, Bool, true, false}
use Rattle.tt_rounds.specs.declared.rounds.Rounds.{Rounds}

-- a schedule was asked before each of so many rounds, when those before it were done, and let it begin
abbrev pub LetsBegin : {P : Type 0} → (P → Rounds → Bool → P → Type 0) → P → ℕ → P → Type 0
LetsBegin says before zero after = after ≡ before
LetsBegin {P} says before (suc n) after = (mid : P) × (did : Rounds) × LetsBegin says before n mid × (did.done ≡ n) × says mid did true after

-- a schedule let each of these rounds begin, and then no other: it said no, or as many as may were done
abbrev pub EndsAfter : {P : Type 0} → (P → Rounds → Bool → P → Type 0) → P → Rounds → P → Type 0
EndsAfter {P} says before did after = (mid : P) × LetsBegin says before did.done mid × (says mid did false after ⊎ ((did.done ≡ 4294967295) × (after ≡ mid)))
