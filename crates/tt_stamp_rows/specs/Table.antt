-- What a table of pending commits answers.
use Rattle.std.specs.Prelude.{◌≡◌, ◌⊎◌, ℕ, ◌<◌, ◌≤◌, List, [], ◌∷◌, ◌++◌, Contains, Option, Some, None, Result, Ok, Err}
use Rattle.tt_span.specs.Interval.{whole}
use Rattle.tt_stamp.specs.Stamp.{stamp_of}
use Rattle.tt_stamp.specs.Fault.{number_of}
use Rattle.tt_stamp.specs.declared.faults.StampFault.{StampFault}
use Rattle.tt_stamp_rows.specs.declared.answers.Answer.{Answer}
use Rattle.tt_stamp_rows.specs.declared.answers.Answer.TheVariants.{Opened, Begun, Ended, Invalid, Mark, NoMark, Yes, No, Refused}
use Rattle.tt_stamp_rows.specs.declared.calls.Call.{Call}
use Rattle.tt_stamp_rows.specs.declared.calls.Call.TheVariants.{Open, Begin, End, Watermark, Readable, Release}

-- the commits of a table: the stamps that were given, in their order, and those of the commits that were ended, which are written or given up
pub record Commits : Type 0 where
  pub given : List ℕ
  pub ended : List ℕ

-- no commit was begun
abbrev pub no_commits : Commits
no_commits = record { given = []; ended = [] }

-- the commit with this stamp was begun, and is not ended
abbrev pub IsPending : Commits → ℕ → Type 0
IsPending commits s = Contains commits.given s × (¬ Contains commits.ended s)

-- each commit that was begun with a stamp up to t is ended
abbrev pub IsSettled : Commits → ℕ → Type 0
IsSettled commits t = (s : ℕ) → Contains commits.given s → s ≤ t → Contains commits.ended s

-- a snapshot at t may be read by a reading with this earliest: t has surely passed, and each commit up to it is ended
abbrev pub IsReadable : Commits → ℕ → ℕ → Type 0
IsReadable commits earliest t = (t < earliest) × IsSettled commits t

-- this is the greatest time at which a snapshot may be read, if there is one
abbrev pub IsWatermark : Commits → ℕ → Option ℕ → Type 0
IsWatermark commits earliest (Some t) = IsReadable commits earliest t × ((u : ℕ) → IsReadable commits earliest u → u ≤ t)
IsWatermark commits earliest None = (u : ℕ) → ¬ IsReadable commits earliest u

-- b is the least of the earliest and the stamps of pending commits
pub record IsBound (commits : Commits) (earliest b : ℕ) : Type 0 where
  pub up_to : b ≤ earliest
  pub below : (s : ℕ) → Contains commits.given s → s < b → Contains commits.ended s
  pub one : (b ≡ earliest) ⊎ IsPending commits b

-- what a commit that is to begin is answered
abbrev pub begun_by : Result ℕ StampFault → Answer
begun_by (Ok stamp) = Begun stamp
begun_by (Err fault) = Refused (number_of fault)

-- what one who asks for the watermark is answered
abbrev pub IsMark : Commits → ℕ → Answer → Type 0
IsMark commits earliest (Mark t) = IsWatermark commits earliest (Some t)
IsMark commits earliest NoMark = IsWatermark commits earliest None
IsMark commits earliest answer = ⊥

-- what a table of these commits answers to a call: by the rule of stamps in a lease of the whole of time, and by which commits are pending
abbrev pub IsSaid : Commits → Call → Answer → Type 0
IsSaid commits Open answer = answer ≡ Opened
IsSaid commits (Begin reading floor) answer = answer ≡ begun_by (stamp_of commits.given reading.hi floor whole)
IsSaid commits (End s) answer =
    (IsPending commits s × (answer ≡ Ended)) ⊎ ((¬ IsPending commits s) × (answer ≡ Invalid))
IsSaid commits (Watermark earliest) answer = IsMark commits earliest answer
IsSaid commits (Readable t earliest) answer =
    (IsReadable commits earliest t × (answer ≡ Yes)) ⊎ ((¬ IsReadable commits earliest t) × (answer ≡ No))
IsSaid commits (Release s earliest) answer =
    (IsPending commits s × (answer ≡ Invalid)) ⊎ ((¬ IsPending commits s) × (s < earliest) × (answer ≡ Yes)) ⊎ ((¬ IsPending commits s) × (earliest ≤ s) × (answer ≡ No))

-- the commits of a table after a call that was answered so
abbrev pub after : Commits → Call → Answer → Commits
after commits Open answer = no_commits
after commits (Begin reading floor) (Begun s) = record commits { given = commits.given ++ s ∷ [] }
after commits (End s) Ended = record commits { ended = commits.ended ++ s ∷ [] }
after commits call answer = commits
