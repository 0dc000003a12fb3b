-- The gate of a worker: how often it is asked about a call, and what it says.
use Rattle.std.specs.Prelude.{◌≡◌, ◌<◌, ℕ, zero, suc, Bool, true, false}

-- a gate was asked about a call so many times, and said no each time
unfoldable pub SaysNo : {G : Type 0} → (G → ℕ → ℕ → Bool → G → Type 0) → ℕ → ℕ → G → ℕ → G → Type 0
SaysNo says worker call before zero after = after ≡ before
SaysNo {G} says worker call before (suc n) after = (mid : G) × SaysNo says worker call before n mid × says mid worker call false after

-- a gate was asked about a call until it said yes, at most 10,000 times; a call that it does not let pass was asked about exactly so often
abbrev pub Asks : {G : Type 0} → (G → ℕ → ℕ → Bool → G → Type 0) → ℕ → ℕ → G → Bool → G → Type 0
Asks {G} says worker call before true after = (times : ℕ) × (mid : G) × (times < 10000) × SaysNo says worker call before times mid × says mid worker call true after
Asks says worker call before false after = SaysNo says worker call before 10000 after
