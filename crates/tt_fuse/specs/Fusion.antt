-- Which times are possible when some of the sources are wrong, and the least interval that holds them all.
use Rattle.std.specs.Prelude.{◌≡◌, ℕ, ◌+◌, ◌*◌, ◌<◌, ◌≤◌, Bool, true, false, List, length, count_by, slice_index_or}
use Rattle.std.specs.List.{HoldsAt}
use Rattle.tt_span.specs.Time.{max_time}
use Rattle.tt_span.specs.Interval.{Interval, IsInterval, Holds, Within}
use Rattle.tt_span.specs.Sources.{max_sources}

-- a set of at most f of n sources, by a flag for each source that is true where the source is in the set
pub record IsSetOfAtMost (f n : ℕ) (set : List Bool) : Type 0 where
  pub one_flag_each : length set ≡ n
  pub few : count_by (λ flag. flag) set ≤ f

-- source k is there, and not in the set
abbrev pub IsOutside : List Bool → ℕ → Type 0
IsOutside set k = (k < length set) × (slice_index_or set k true ≡ false)

-- x may be the true time when at most f of the sources are wrong: for some set of at most f sources, the span of
-- every source outside it holds x
pub record IsPossibleTime (spans : List Interval) (f x : ℕ) : Type 0 where
  pub in_time : x ≤ max_time
  pub wrong : List Bool
  pub few_wrong : IsSetOfAtMost f (length spans) wrong
  pub others_hold : (k : ℕ) → IsOutside wrong k → HoldsAt (λ span. Holds span x) spans k

-- the interval holds every possible time
abbrev pub IsRightFor : List Interval → ℕ → Interval → Type 0
IsRightFor spans f i = (x : ℕ) → IsPossibleTime spans f x → Holds i x

-- the least interval that holds every possible time, of which there is at least one
pub record IsFusion (spans : List Interval) (f : ℕ) (i : Interval) : Type 0 where
  pub interval : IsInterval i
  pub possible : (x : ℕ) × IsPossibleTime spans f x
  pub right : IsRightFor spans f i
  pub least : (j : Interval) → IsRightFor spans f j → Within i j

-- no time is possible, so there is no fusion
abbrev pub HasNoPossibleTime : List Interval → ℕ → Type 0
HasNoPossibleTime spans f = (x : ℕ) → IsPossibleTime spans f x → ⊥

-- n sources are as many as can be asked, and enough when f of them may be wrong
pub record CanBeFused (n f : ℕ) : Type 0 where
  pub some : 0 < n
  pub not_too_many : n ≤ max_sources
  pub enough : 2 * f + 1 ≤ n

-- of every set of at most f sources, some source outside it has a span that the interval lies within
abbrev pub LiesWithinSomeOther : List Interval → ℕ → Interval → Type 0
LiesWithinSomeOther spans f i =
    (set : List Bool) → IsSetOfAtMost f (length spans) set → (k : ℕ) × IsOutside set k × HoldsAt (λ span. Within i span) spans k
