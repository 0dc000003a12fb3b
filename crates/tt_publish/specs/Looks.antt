-- What one `now` on a watch does.
use Rattle.std.specs.Prelude.{◌≡◌, ℕ, ◌↔◌, [], Option, Some, None, Result, IfOk, IsErrOf}
use mathlib.Core.List.{IsPrefix}
use Rattle.tt_stream.specs.Counts.{HasFailed}
use Rattle.tt_span.specs.Interval.{Interval}
use Rattle.tt_publish.specs.Known.{WatchState, ReadsLast, MissesLast}
use Rattle.tt_publish.specs.declared.faults.ReadFault.{ReadFault}
use Rattle.tt_publish.specs.declared.faults.ReadFault.TheVariants.{Nothing, ClockBack, ClockFailed}

-- one `now` on a watch, by a clock that gives and has failed so: it made of the watch `old` and the clock `before` the watch `new` and the clock `after`, and answered this
pub record Looks {C : Type 0} (gives : C → Option ℕ → C → Type 0) (failed : C → ℕ) (old : WatchState) (before : C) (answer : Result Interval ReadFault) (new : WatchState) (after : C) : Type 0 where
  pub same : (new.source ≡ old.source) × (new.drift ≡ old.drift)
  -- what was seen never shrinks
  pub seen : IsPrefix old.items new.items
  pub reading : IfOk answer (λ reading. ReadsLast new (λ c. gives before (Some c) after) reading)
  pub nothing : IsErrOf answer Nothing ↔ (new.items ≡ [])
  -- where there is nothing to read, the clock is not read
  pub unread : IsErrOf answer Nothing → after ≡ before
  pub clock_failed : IsErrOf answer ClockFailed → gives before None after × HasFailed (failed before) (failed after)
  pub clock_back : IsErrOf answer ClockBack → MissesLast new (λ c. gives before (Some c) after)
  -- but for that refusal, the clock did not fail
  pub sound : ¬ IsErrOf answer ClockFailed → failed after ≡ failed before
