-- What a reference in memory gives.
use Rattle.std.specs.Prelude.{◌≡◌, ◌<◌, ℕ, List, [], ◌∷◌, Option, Some, None}
use Rattle.tt_span.specs.Time.{max_time}

-- a reference in memory
pub record ReferenceState : Type 0 where
  -- the times that are still to come
  pub left : List ℕ
  -- the call that fails, counted from 1
  pub fails_at : Option ℕ
  -- the calls so far
  pub calls : ℕ
  -- the failures so far
  pub failures : ℕ

-- a call of such a reference gives the next of its times, or fails and keeps them
abbrev pub GivesNext : ReferenceState → Option ℕ → ReferenceState → Type 0
GivesNext before (Some time) after = before.left ≡ time ∷ after.left
GivesNext before None after = after.left ≡ before.left

-- no time comes next: the list is at its end, or its next number is above the greatest time
abbrev pub HasNoTime : List ℕ → Type 0
HasNoTime [] = Unit {0}
HasNoTime (time ∷ _) = max_time < time
