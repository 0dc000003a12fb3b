-- The clock of a machine, as contracts see it.
use Rattle.std.specs.Prelude.{◌≡◌, ℕ, ◌≤◌, Option, Some, None}

-- the last time that a clock showed, 0 before the first, and its failures so far
pub record ClockState : Type 0 where
  pub last : ℕ
  pub failures : ℕ

-- no reading is below one before it; where there is no reading, the last one stays
abbrev pub MachineGives : ClockState → Option ℕ → ClockState → Type 0
MachineGives before (Some time) after = (before.last ≤ time) × (after.last ≡ time)
MachineGives before None after = after.last ≡ before.last
