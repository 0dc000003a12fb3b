-- What a clock may be wrong by, and what that does to an interval as it ages.
use Rattle.std.specs.Prelude.{ℕ, ◌+◌, ◌-◌, ◌*◌, ◌/◌, ◌≤◌, List, [], ◌∷◌}
use Rattle.std.specs.List.{AllByRecursion}
use Rattle.tt_span.specs.Time.{cut}
use Rattle.tt_span.specs.Interval.{Interval}

-- the greatest drift, in parts per million
abbrev pub max_drift : ℕ
max_drift = 100000

-- w is the least whole number that is at least d times the drift
pub record IsWidening (ppm d w : ℕ) : Type 0 where
  pub enough : d * ppm ≤ w * 1000000
  pub least : (v : ℕ) → d * ppm ≤ v * 1000000 → w ≤ v

-- what a clock of this drift may be wrong by after d nanoseconds: d times the drift, rounded up
unfoldable pub widening : ℕ → ℕ → ℕ
widening ppm d = (d * ppm + 999999) / 1000000

-- how far two numbers are apart
abbrev pub distance : ℕ → ℕ → ℕ
distance a b = (a - b) + (b - a)

-- what a clock showed at a true time
pub record Moment : Type 0 where
  pub clock : ℕ
  pub time : ℕ

-- between the two moments the clock went wrong by no more than its drift allows
abbrev pub AgreesWith : ℕ → Moment → Moment → Type 0
AgreesWith ppm a b = distance (distance a.clock b.clock) (distance a.time b.time) ≤ widening ppm (distance a.clock b.clock)

-- a clock keeps the drift bound over these moments: every two of them agree
abbrev pub KeepsDrift : ℕ → List Moment → Type 0
KeepsDrift ppm [] = Unit {0}
KeepsDrift ppm (m ∷ ms) = AllByRecursion (AgreesWith ppm m) ms × KeepsDrift ppm ms

-- the least time that x may have become when the clock has gone on by d
abbrev pub aged_low : ℕ → ℕ → ℕ → ℕ
aged_low ppm x d = cut (x + d - widening ppm d)

-- the greatest time that x may have become when the clock has gone on by d
abbrev pub aged_high : ℕ → ℕ → ℕ → ℕ
aged_high ppm x d = cut (x + d + widening ppm d)

-- an interval when the clock has gone on by d: moved by d and widened both ways, each end cut at the greatest time
abbrev pub aged : ℕ → Interval → ℕ → Interval
aged ppm i d = record { lo = aged_low ppm i.lo d; hi = aged_high ppm i.hi d }
