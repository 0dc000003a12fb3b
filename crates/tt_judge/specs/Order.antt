-- Commits in the order of one of their times.
use Rattle.std.specs.Prelude.{◌≡◌, ℕ, ◌<◌, ◌≤◌, Bool, List, length, Option, slice_index_or, count_by, MatchOption}
use Rattle.tt_judge.specs.declared.history.Commit.{Commit}
use Rattle.tt_judge.specs.declared.order.Moment.{Moment}
use Rattle.tt_judge.specs.declared.order.Moment.TheVariants.{Began, Ended}
use Rattle.tt_judge.specs.Consistency.{commit_at, ComesFirst, IsGreatestBefore}

-- one of a commit's times
abbrev pub time_of : Moment → Commit → ℕ
time_of Began commit = commit.began
time_of Ended commit = commit.ended

-- the entry at a place of an order: a time, and the number of the commit
abbrev pub entry_at : List (ℕ × ℕ) → ℕ → ℕ × ℕ
entry_at order place = slice_index_or order place (0, 0)

-- each commit of the history once, with its time, in the order of these times, and of their numbers where times are equal
pub record IsOrderOf (moment : Moment) (history : List Commit) (order : List (ℕ × ℕ)) : Type 0 where
  pub as_many : length order ≡ length history
  pub inside : (place : ℕ) → place < length order → (entry_at order place).1 < length history
  pub timed : (place : ℕ) → place < length order → (entry_at order place).0 ≡ time_of moment (commit_at history (entry_at order place).1)
  pub all : (number : ℕ) → number < length history → (place : ℕ) × (place < length order) × ((entry_at order place).1 ≡ number)
  pub ascends : (place later : ℕ) → place ≤ later → later < length order →
      ComesFirst (entry_at order place).0 (entry_at order place).1 (entry_at order later).0 (entry_at order later).1
  pub counts : (test : Commit → Bool) → count_by (λ entry. test (commit_at history entry.1)) order ≡ count_by test history

-- of the commits that ended before a time, the one with the greatest stamp; None where no commit did
abbrev pub IsGreatestIfAny : List Commit → ℕ → Option ℕ → Type 0
IsGreatestIfAny history time greatest =
    MatchOption greatest ((number : ℕ) → number < length history → (commit_at history number).ended < time → ⊥) (IsGreatestBefore history time)
