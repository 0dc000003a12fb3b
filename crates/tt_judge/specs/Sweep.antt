-- How far a history has been judged.
use Rattle.std.specs.Prelude.{◌≡◌, ℕ, ◌<◌, ◌≤◌, true, false, List, length, Option, Some, MatchOption, ◌⊎◌}
use Rattle.tt_judge.specs.declared.history.Commit.{Commit}
use Rattle.tt_judge.specs.declared.judging.Violation.{Violation}
use Rattle.tt_judge.specs.Consistency.{commit_at, is_violated, Contradicts, IsGreatestBefore}
use Rattle.tt_judge.specs.Order.{entry_at}

-- no commit of these two has the greater stamp than the first, and of equal stamps the first has the lower number
pub record Leads (history : List Commit) (number other : ℕ) : Type 0 where
  pub stamps : (commit_at history other).stamp ≤ (commit_at history number).stamp
  pub ties : (commit_at history other).stamp ≡ (commit_at history number).stamp → number ≤ other

-- the commit leads the one that is added and the one that led so far, and is one of them
abbrev pub IsGreater : List Commit → Option ℕ → ℕ → ℕ → Type 0
IsGreater history greatest number result =
    MatchOption greatest (result ≡ number) (λ other. Leads history result number × Leads history result other × ((result ≡ number) ⊎ (result ≡ other)))

-- among the first of these ends stands the commit that leads them all
pub record IsLeader (history : List Commit) (endings : List (ℕ × ℕ)) (count number : ℕ) : Type 0 where
  pub place : ℕ
  pub among : place < count
  pub is : (entry_at endings place).1 ≡ number
  pub leads : (other : ℕ) → other < count → Leads history number (entry_at endings other).1

-- so many ends have been passed, and this commit leads theirs
pub record IsPassed (history : List Commit) (endings : List (ℕ × ℕ)) (count : ℕ) (greatest : Option ℕ) : Type 0 where
  pub within : count ≤ length endings
  pub leader : MatchOption greatest (count ≡ 0) (IsLeader history endings count)

-- a commit is not violated, or this is its violation
abbrev pub IsVerdict : List Commit → ℕ → Option Violation → Type 0
IsVerdict history later verdict = MatchOption verdict (is_violated history (commit_at history later) ≡ false)
    (λ violation. (violation.later ≡ later)
    × (is_violated history (commit_at history later) ≡ true)
    × Contradicts (commit_at history violation.earlier) (commit_at history later)
    × IsGreatestBefore history (commit_at history later).began violation.earlier)

-- the first violation among the first commits of an order, if one of them is violated
abbrev pub IsFirstSoFar : List Commit → List (ℕ × ℕ) → ℕ → Option Violation → Type 0
IsFirstSoFar history arrivals count first = MatchOption first
    ((place : ℕ) → place < count → is_violated history (commit_at history (entry_at arrivals place).1) ≡ false)
    (λ violation. (place : ℕ) × (place < count) × IsVerdict history (entry_at arrivals place).1 (Some violation)
    × ((before : ℕ) → before < place → is_violated history (commit_at history (entry_at arrivals before).1) ≡ false))
