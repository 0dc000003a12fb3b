-- Which commits of a history contradict what was seen outside.
use Rattle.std.specs.Prelude.{◌≡◌, ℕ, ◌<◌, ◌≤◌, Bool, ◌&&◌, List, length, nat_lt, nat_le, slice_index_or, count_by}
use Rattle.std.specs.List.{list_any}
use Rattle.tt_judge.specs.declared.history.Commit.{Commit}
use Rattle.tt_judge.specs.declared.judging.Violation.{Violation}

-- the commit of this number, counted from 0
abbrev pub commit_at : List Commit → ℕ → Commit
commit_at history number = slice_index_or history number (record { began = 0; ended = 0; stamp = 0 })

-- the first commit ended before the second began, and yet the second's stamp is not above its own
pub record Contradicts (earlier later : Commit) : Type 0 where
  pub before : earlier.ended < later.began
  pub stamps : later.stamp ≤ earlier.stamp

-- the commit's stamp is not above that of some commit of the history that ended before it began
abbrev pub IsViolated : List Commit → Commit → Type 0
IsViolated history later = (number : ℕ) × (number < length history) × Contradicts (commit_at history number) later

-- each commit's stamp is above those of all commits that ended before it began
abbrev pub IsConsistent : List Commit → Type 0
IsConsistent history = (number : ℕ) → number < length history → IsViolated history (commit_at history number) → ⊥

-- whether the second commit contradicts the first
abbrev pub contradicts : Commit → Commit → Bool
contradicts later earlier = nat_lt earlier.ended later.began && nat_le later.stamp earlier.stamp

-- whether some commit of the history contradicts this one
abbrev pub is_violated : List Commit → Commit → Bool
is_violated history later = list_any (contradicts later) history

-- how many commits of the history are contradicted by some commit of it
abbrev pub violations_of : List Commit → ℕ
violations_of history = count_by (is_violated history) history

-- of two commits with these keys and numbers the first comes no later: a lower key first, and of two equal keys the lower number
pub record ComesFirst (key number other_key other_number : ℕ) : Type 0 where
  pub keys : key ≤ other_key
  pub ties : key ≡ other_key → number ≤ other_number

-- of the commits that ended before a time, this one has the greatest stamp, and of those with that stamp the lowest number
pub record IsGreatestBefore (history : List Commit) (time number : ℕ) : Type 0 where
  pub inside : number < length history
  pub before : (commit_at history number).ended < time
  pub greatest : (other : ℕ) → other < length history → (commit_at history other).ended < time →
      (commit_at history other).stamp ≤ (commit_at history number).stamp
  pub lowest : (other : ℕ) → other < length history → (commit_at history other).ended < time →
      (commit_at history other).stamp ≡ (commit_at history number).stamp → number ≤ other

-- the first violation: of the commits that some other contradicts the one that began first, and of those that contradict it
-- the one with the greatest stamp; of equals, the lowest number
pub record IsFirstViolation (history : List Commit) (violation : Violation) : Type 0 where
  pub inside : violation.later < length history
  pub contradicts : Contradicts (commit_at history violation.earlier) (commit_at history violation.later)
  pub earlier : IsGreatestBefore history (commit_at history violation.later).began violation.earlier
  pub first : (other : ℕ) → other < length history → IsViolated history (commit_at history other) →
      ComesFirst (commit_at history violation.later).began violation.later (commit_at history other).began other
