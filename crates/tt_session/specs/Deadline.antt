-- How a session's device keeps a deadline: the clock is read before each time that the device within is asked.
use Rattle.std.specs.Prelude.{◌≡◌, ◌<◌, ◌≤◌, ℕ, zero, suc, Bool, Option, Some, None}
use Rattle.tt_stream.specs.Counts.{HasFailed}
use Rattle.tt_session.specs.declared.deadlines.Deadline.{Deadline}

-- a reader with a deadline: its failures and the reads that it was asked for, so far
pub record DeadlineReaderState (D C : Type 0) : Type 0 where
  pub device : D
  pub clock : C
  pub deadline : Deadline
  pub failures : ℕ
  pub reads : ℕ

-- a writer with a deadline: its failures so far, and whether nothing was written since the last flush
pub record DeadlineWriterState (D C : Type 0) : Type 0 where
  pub device : D
  pub clock : C
  pub deadline : Deadline
  pub failures : ℕ
  pub flushed : Bool

-- the clock was read so many times, and each time it showed one before the deadline
abbrev pub ShowsBefore : {C : Type 0} → (C → Option ℕ → C → Type 0) → ℕ → C → ℕ → C → Type 0
ShowsBefore gives deadline before zero after = after ≡ before
ShowsBefore {C} gives deadline before (suc n) after =
    (mid : C) × (reading : ℕ) × ShowsBefore gives deadline before n mid × gives mid (Some reading) after × (reading < deadline)

-- why a call ended without an answer of the device: the device failed, it gave nothing as often as it may be asked, the clock failed, or the deadline is reached
pub data WhyEnded {C : Type 0} (gives : C → Option ℕ → C → Type 0) (failed : C → ℕ) (deadline : Deadline) (device device' : ℕ) (clock clock' : C) : Type 0 where
  DeviceFailed : (n : ℕ) → ShowsBefore gives deadline.at clock n clock' → HasFailed device device' → WhyEnded gives failed deadline device device' clock clock'
  NothingCame : ShowsBefore gives deadline.at clock deadline.tries clock' → WhyEnded gives failed deadline device device' clock clock'
  ClockFailed : (n : ℕ) (mid : C) → ShowsBefore gives deadline.at clock n mid → gives mid None clock' → HasFailed (failed mid) (failed clock')
      → WhyEnded gives failed deadline device device' clock clock'
  TooLate : (n : ℕ) (mid : C) (reading : ℕ) → ShowsBefore gives deadline.at clock n mid → gives mid (Some reading) clock' → deadline.at ≤ reading
      → WhyEnded gives failed deadline device device' clock clock'
