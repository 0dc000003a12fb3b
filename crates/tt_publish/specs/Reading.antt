-- Readings of the time.
use Rattle.std.specs.Prelude.{ℕ, ◌-◌, ◌<◌, ◌≤◌}
use Rattle.tt_span.specs.Time.{max_time}
use Rattle.tt_span.specs.Interval.{Interval}
use Rattle.tt_span.specs.Drift.{aged}
use Rattle.tt_daemon.specs.Publication.{Publication}
use Rattle.tt_publish.specs.declared.readings.FusedSpan.{FusedSpan}

-- t has surely passed: it lies before the whole reading
abbrev pub HasPassed : Interval → ℕ → Type 0
HasPassed reading t = t < reading.lo

-- t has surely not arrived: it lies after the whole reading
abbrev pub IsToCome : Interval → ℕ → Type 0
IsToCome reading t = reading.hi < t

-- what is read of a publication
abbrev pub fused_span_of : Publication → FusedSpan
fused_span_of publication = record { clock = publication.clock; span = publication.span }

-- a fused span can be read when the clock shows c: the clock has not gone back behind the fusion, and is in time
abbrev pub CanBeReadAt : FusedSpan → ℕ → Type 0
CanBeReadAt fused c = (fused.clock ≤ c) × (c ≤ max_time)

-- the reading of a fused span when the clock shows c: the span, aged by what the clock has gone on since
abbrev pub reading_at : ℕ → FusedSpan → ℕ → Interval
reading_at ppm fused c = aged ppm fused.span (c - fused.clock)
