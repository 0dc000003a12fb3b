-- The sources that a fusion speaks against.
use Rattle.std.specs.Prelude.{ℕ, ◌<◌, ◌↔◌, List, length, Contains}
use Rattle.std.specs.List.{HoldsAt}
use Rattle.std.specs.List.Sorted.{IsStrictlyIncreasing}
use Rattle.tt_span.specs.Interval.{Interval, Meets}

-- source k is there, and no time lies both in its span and in i
abbrev pub IsSuspect : List Interval → Interval → ℕ → Type 0
IsSuspect spans i k = (k < length spans) × HoldsAt (λ span. Meets span i → ⊥) spans k

-- the numbers of the suspects, all of them and no others, each once and ascending
pub record AreSuspects (spans : List Interval) (i : Interval) (sources : List ℕ) : Type 0 where
  pub ascending : IsStrictlyIncreasing sources
  pub exact : (k : ℕ) → Contains sources k ↔ IsSuspect spans i k
