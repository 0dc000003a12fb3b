-- How fast the time of a source goes against the clock of a machine, in parts per billion.
use Rattle.std.specs.Prelude.{◌≤◌, ◌+◌, ◌-◌, ◌*◌, ◌/◌, ℕ, nat_le, nat_lt, if◌then◌else◌, Bool, Option, Some, None}
use Rattle.tt_span.specs.Interval.{Interval}
use Rattle.tt_span.specs.Drift.{distance}
use Rattle.tt_health.specs.declared.rates.Rate.{Rate}
use Rattle.tt_health.specs.declared.rates.Sample.{Sample}
use Rattle.tt_health.specs.declared.rates.Track.{Track}

-- rates are in parts of this
abbrev pub billion : ℕ
billion = 1000000000

-- the shortest baseline of a full track
abbrev pub baseline : ℕ
baseline = 1000000000000

-- the shortest baseline by which a rate is told
abbrev pub shortest : ℕ
shortest = 1000000000

-- ---- what a rate says

-- by how much a rate is above 1
abbrev pub above_of : Rate → ℕ
above_of rate = if rate.below then 0 else rate.size

-- by how much a rate is below 1
abbrev pub below_of : Rate → ℕ
below_of rate = if rate.below then rate.size else 0

-- while the clock went on by d, the time of the source went on from one time to another: by d times the rate, give or take d times its error
pub record IsRateOf (rate : Rate) (d from to : ℕ) : Type 0 where
  pub least : from * billion + d * (billion + above_of rate) ≤ to * billion + d * (below_of rate + rate.error)
  pub most : to * billion + d * below_of rate ≤ from * billion + d * (billion + above_of rate + rate.error)

-- ---- the rate between two samples

-- an amount as parts per billion of another, rounded down
abbrev pub parts_of : ℕ → ℕ → ℕ
parts_of amount whole = amount * billion / whole

-- twice the middle of a span
abbrev pub ends_of : Interval → ℕ
ends_of span = span.lo + span.hi

-- how wide a span is
abbrev pub width_of : Interval → ℕ
width_of span = span.hi - span.lo

-- the rate by two spans and how far the clock went on between them: its size by the middles of the spans, its error by half their widths, and two parts more, since both are rounded
abbrev pub rate_between : Interval → Interval → ℕ → Rate
rate_between first last d = record {
  below = nat_lt (ends_of last) (ends_of first + 2 * d);
  size = parts_of (distance (ends_of last) (ends_of first + 2 * d)) (2 * d);
  error = parts_of (width_of last + width_of first) (2 * d) + 2;
}

-- the same of two samples, if the baseline is long enough
abbrev pub rate_of_samples : Option Sample → Option Sample → Option Rate
rate_of_samples (Some first) (Some last) = if nat_le shortest (last.clock - first.clock) then Some (rate_between first.span last.span (last.clock - first.clock)) else None
rate_of_samples first last = None

-- the rate that a track tells
abbrev pub rate_of : Track → Option Rate
rate_of track = rate_of_samples track.first track.last

-- ---- tracks

-- a track without samples
abbrev pub new_track : Track
new_track = record { first = None; second = None; last = None }

-- a sample comes so late after the second one that it begins a new baseline
abbrev pub is_due : Sample → Sample → Bool
is_due second sample = nat_le baseline (sample.clock - second.clock)

-- the track with a new last sample, by what was its second one
abbrev pub with_sample : Track → Option Sample → Sample → Track
with_sample track None sample = record { first = Some sample; second = Some sample; last = Some sample }
with_sample track (Some second) sample = if is_due second sample then record { first = Some second; second = Some sample; last = Some sample } else record track { last = Some sample }

-- the track after one more sample
abbrev pub track_after : Track → Sample → Track
track_after track sample = with_sample track track.second sample
