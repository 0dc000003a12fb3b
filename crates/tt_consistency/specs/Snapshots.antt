-- Snapshots beside the table of pending commits of a stamper: when one is readable, and what the table becomes after that.
use Rattle.std.specs.Prelude.{◌≡◌, ◌⊎◌, ◌↔◌, ℕ, ◌<◌, ◌≤◌, List, ◌++◌, All, Contains}
use Rattle.tt_span.specs.Interval.{Interval, Holds}
use Rattle.tt_consistency.specs.Stampers.{GivenStamp}

-- the commits of a stamper at one moment: those begun so far, by their stamps, the newest first; the stamps of those that are written; and the stamps of those that were given up
pub record CommitTable : Type 0 where
  pub begun : List GivenStamp
  pub written : List ℕ
  pub given_up : List ℕ

-- a commit with this stamp is written or given up
abbrev pub IsEnded : CommitTable → ℕ → Type 0
IsEnded table s = Contains table.written s ⊎ Contains table.given_up s

-- each of these commits with a stamp up to t is written or given up
abbrev pub AreEndedUpTo : CommitTable → List GivenStamp → ℕ → Type 0
AreEndedUpTo table commits t = (given : GivenStamp) → Contains commits given → given.stamp ≤ t → IsEnded table given.stamp

-- a snapshot at t was made readable: t lay below the earliest of a reading, which held the true time at which it was taken, and after that the table said that each commit begun so far with a stamp up to t is ended
pub record IsMadeReadable (table : CommitTable) (t : ℕ) : Type 0 where
  pub past : Interval
  pub read : ℕ
  pub holds : Holds past read
  pub is_past : t < past.lo
  pub ended : AreEndedUpTo table table.begun t

-- what a table becomes: later commits take their readings no earlier than `read`; what is written stays written, what was given up is never written, and what is written was begun
pub record Becomes (read : ℕ) (table after : CommitTable) : Type 0 where
  pub later : List GivenStamp
  pub begun : after.begun ≡ later ++ table.begun
  pub since : All (λ (given : GivenStamp). read ≤ given.read) later
  pub stays : (s : ℕ) → Contains table.written s → Contains after.written s
  pub never : (s : ℕ) → Contains table.given_up s → ¬ Contains after.written s
  pub of_begun : (s : ℕ) → Contains after.written s → (given : GivenStamp) × Contains after.begun given × (given.stamp ≡ s)

-- two tables show the same at t: the same commits with stamps up to t are written
abbrev pub ShowTheSame : CommitTable → CommitTable → ℕ → Type 0
ShowTheSame table after t = (s : ℕ) → s ≤ t → Contains table.written s ↔ Contains after.written s
