-- Readings of what a running daemon published, by the clock of its machine.
use Rattle.std.specs.Prelude.{◌≡◌, ℕ, ◌≤◌, List, ◌∷◌, Option, Some, Result, IfOk}
use Rattle.tt_span.specs.Time.{max_time}
use Rattle.tt_span.specs.Interval.{Interval}
use Rattle.tt_span.specs.Drift.{Moment, KeepsDrift}
use Rattle.tt_daemon.specs.Publication.{Publication}
use Rattle.tt_publish.specs.Known.{WatchState, last_of}
use Rattle.tt_publish.specs.Reading.{fused_span_of, CanBeReadAt, reading_at}
use Rattle.tt_publish.specs.declared.readings.FusedSpan.{FusedSpan}
use Rattle.tt_consistency.specs.Timeline.{IsAmong}

-- a true time is no earlier than a publication: than each of these moments at which the clock showed the publication's reading
abbrev pub IsNoEarlier : List Moment → FusedSpan → ℕ → Type 0
IsNoEarlier moments publication time = (made : ℕ) → IsAmong (record { clock = publication.clock; time = made }) moments → made ≤ time

-- a reading of a watch was taken at a true time, by the clock that has these moments: it is the reading of the last publication that the watch has seen, at a clock reading that the clock gave then; the clock keeps this drift bound over that moment too, and the time is no earlier than that publication
pub record IsTakenAt {C : Type 0} (gives : C → Option ℕ → C → Type 0) (ppm : ℕ) (moments : List Moment) (watch : WatchState) (before after : C) (reading : Interval) (time : ℕ) : Type 0 where
  pub last : Publication
  pub clock : ℕ
  pub last_is : last_of watch.items ≡ Some last
  pub gave : gives before (Some clock) after
  pub can : CanBeReadAt (fused_span_of last) clock
  pub reading_is : reading ≡ reading_at watch.drift (fused_span_of last) clock
  pub drift : KeepsDrift ppm (record { clock = clock; time = time } ∷ moments)
  pub in_time : time ≤ max_time
  pub no_earlier : IsNoEarlier moments (fused_span_of last) time

-- a watch is read at a true time, by the clock that has these moments: the reading that was given was taken then; where none was given, nothing is asked
abbrev pub IsReadAt : {C Fault : Type 0} → (C → Option ℕ → C → Type 0) → ℕ → List Moment → WatchState → C → C → Result Interval Fault → ℕ → Type 0
IsReadAt gives ppm moments watch before after answer time = IfOk answer (λ reading. IsTakenAt gives ppm moments watch before after reading time)
