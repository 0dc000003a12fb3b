-- What a clock in memory gives.
use Rattle.std.specs.Prelude.{◌≡◌, ℕ, List, ◌∷◌, Option, Some, None}

-- a clock in memory
pub record ClockState : Type 0 where
  -- the readings that are still to come
  pub left : List ℕ
  -- the call that fails, counted from 1
  pub fails_at : Option ℕ
  -- the calls so far
  pub calls : ℕ
  -- the failures so far
  pub failures : ℕ

-- a call of such a clock gives the next of its readings, or fails and keeps them
abbrev pub GivesNext : ClockState → Option ℕ → ClockState → Type 0
GivesNext before (Some reading) after = before.left ≡ reading ∷ after.left
GivesNext before None after = after.left ≡ before.left
