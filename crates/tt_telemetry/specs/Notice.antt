-- What the daemon notices: publications that do not meet, and answers that are too old.
use Rattle.std.specs.Prelude.{◌≡◌, ℕ, ◌+◌, ◌-◌, ◌^◌, min, nat_lt, Bool, true, List, slice_index_or, slice_set, take, Option, Some, None}
use Rattle.tt_daemon.specs.Config.{Configuration}
use Rattle.tt_publish.specs.Reading.{reading_at}
use Rattle.tt_publish.specs.declared.readings.FusedSpan.{FusedSpan}
use Rattle.tt_health.specs.declared.answers.Answer.{Answer}
use Rattle.tt_health.specs.Answers.{nth_newest}
use Rattle.tt_health.specs.Break.{IsUnmet}
use Rattle.tt_health.specs.Width.{width_place}
use Rattle.tt_status.specs.declared.histograms.Histogram.{Histogram}
use Rattle.tt_status.specs.declared.lines.LogEvent.{LogEvent}
use Rattle.tt_status.specs.declared.lines.LogEvent.TheVariants.{AssumptionBroken}
use Rattle.tt_sharing.specs.Share.{fresh_until}
use Rattle.tt_telemetry.specs.declared.notices.Unmet.{Unmet}
use Rattle.tt_telemetry.specs.declared.records.Shown.{Shown}

-- a fused span does not meet the last one, and this is said of them: the clock reading and the span of the new one, and the last one as it is read then
pub record TellsApart (ppm : ℕ) (last fused : FusedSpan) (unmet : Unmet) : Type 0 where
  pub apart : IsUnmet ppm last fused
  pub is : unmet ≡ record { clock = fused.clock; span = fused.span; last = reading_at ppm last fused.clock }

-- the same of what is shown of two publications
abbrev pub TellsUnmet : ℕ → Option Shown → Option Shown → Unmet → Type 0
TellsUnmet ppm (Some last) (Some shown) unmet = TellsApart ppm last.fused shown.fused unmet
TellsUnmet ppm _ _ unmet = ⊥

-- what is logged of them
abbrev pub event_of_unmet : Unmet → LogEvent
event_of_unmet unmet = AssumptionBroken unmet.clock unmet.span.lo unmet.span.hi unmet.last.lo unmet.last.hi

-- the clock reading of the (n - f)-th newest of the last answers of the sources, where as many have answered
abbrev pub needed_by : List (Option Answer) → Configuration → Option ℕ
needed_by answers config = nth_newest (take config.sources answers) (config.sources - config.faulty)

-- fewer than n - f sources have answered within three periods
abbrev pub is_stale : Option ℕ → ℕ → ℕ → Bool
is_stale (Some clock) period now = nat_lt (fresh_until clock period) now
is_stale None period now = true

-- one more of a count, which stays below 2^64
abbrev pub one_more_of : ℕ → ℕ
one_more_of count = min (count + 1) (2 ^ 64 - 1)

-- widths of publications, with one more
abbrev pub with_width : Histogram → ℕ → Histogram
with_width widths width = record {
  bounds = widths.bounds;
  counts = slice_set widths.counts (width_place width) (one_more_of (slice_index_or widths.counts (width_place width) 0));
  sum = min (widths.sum + width) (2 ^ 64 - 1);
}
