-- Closed intervals of time, and how they lie to each other.
use Rattle.std.specs.Prelude.{ℕ, ◌≤◌, ◌↔◌}
use Rattle.tt_span.specs.Time.{max_time}

-- a closed interval of time, from lo to hi
pub record Interval : Type 0 where
  pub lo : ℕ
  pub hi : ℕ

-- its ends are in order, and it ends at the greatest time or before
pub record IsInterval (i : Interval) : Type 0 where
  pub ordered : i.lo ≤ i.hi
  pub in_time : i.hi ≤ max_time

-- the interval that holds every time
abbrev pub whole : Interval
whole = record { lo = 0; hi = max_time }

-- x lies in the interval
abbrev pub Holds : Interval → ℕ → Type 0
Holds i x = (i.lo ≤ x) × (x ≤ i.hi)

-- some point lies in both
abbrev pub Meets : Interval → Interval → Type 0
Meets a b = (x : ℕ) × Holds a x × Holds b x

-- the first lies within the second
abbrev pub Within : Interval → Interval → Type 0
Within a b = (b.lo ≤ a.lo) × (a.hi ≤ b.hi)

-- h is the least interval that both lie within
pub record IsHull (a b h : Interval) : Type 0 where
  pub first : Within a h
  pub second : Within b h
  pub least : (i : Interval) → Within a i → Within b i → Within h i

-- i holds exactly the points that lie in both
abbrev pub IsIntersection : Interval → Interval → Interval → Type 0
IsIntersection a b i = (x : ℕ) → Holds i x ↔ (Holds a x × Holds b x)
