-- A clock of a run, as contracts see it.
use Rattle.std.specs.Prelude.{◌≡◌, ℕ, ◌≤◌, Option, Some, None}

-- the last time that a clock showed, 0 before the first, and its failures so far
pub record LiveState : Type 0 where
  pub last : ℕ
  pub failures : ℕ

-- a clock that has shown nothing and has not failed
abbrev pub new_clock : LiveState
new_clock = record { last = 0; failures = 0 }

-- no reading is below one before it; where there is no reading, the last one stays
abbrev pub LiveGives : LiveState → Option ℕ → LiveState → Type 0
LiveGives before (Some time) after = (before.last ≤ time) × (after.last ≡ time)
LiveGives before None after = after.last ≡ before.last

-- its failures
abbrev pub failures_of : LiveState → ℕ
failures_of clock = clock.failures
