-- Timestamps as times, how far the true time may be from one, and nanoseconds.
use Rattle.std.specs.Prelude.{ℕ, ◌+◌, ◌-◌, ◌*◌, ◌/◌, ◌%◌, ◌^◌, ◌<◌, ◌≤◌, List, nat_lt, if◌then◌else◌}
use Rattle.tt_span.specs.Interval.{Interval}
use Rattle.tt_span.specs.Drift.{distance}
use Rattle.tt_ntp.specs.Packet.{precision_at, root_delay_at, root_dispersion_at, transmit_at}

-- a second in the units of timestamps, and a nanosecond in grains
abbrev pub second : ℕ
second = 2 ^ 32

-- a second in nanoseconds, and a unit in grains
abbrev pub billion : ℕ
billion = 1000000000

-- the seconds from the first moment of 1900, where timestamps begin, to that of 1970
abbrev pub ntp_epoch : ℕ
ntp_epoch = 2208988800

-- the seconds from 1970 to the first moment of 2024, from which on timestamps are read
abbrev pub pivot : ℕ
pivot = 1704067200

-- the time of a timestamp, in units since 1970: of the times that have this timestamp, the first one from the pivot on
abbrev pub time_of : ℕ → ℕ
time_of stamp = pivot * second + (stamp + 2 ^ 64 - (pivot + ntp_epoch) * second) % 2 ^ 64

-- the precision in units: two to the power of its byte, a signed number, times a second; at least a unit, and at most a second
abbrev pub precision_of : ℕ → ℕ
precision_of byte = if nat_lt byte 128 then second else 2 ^ (byte - 224)

-- how far the true time may be from the transmit timestamp, in units: half the root delay, the root dispersion and the precision, where one is added to each of the first two, since the server may have cut them
abbrev pub radius_at : List ℕ → ℕ
radius_at bytes = (root_delay_at bytes + 1) * 2 ^ 15 + (root_dispersion_at bytes + 1) * 2 ^ 16 + precision_of (precision_at bytes)

-- the last whole nanosecond at or before a time in units
abbrev pub floor_of : ℕ → ℕ
floor_of time = time * billion / second

-- the first whole nanosecond at or after a time in units
abbrev pub ceiling_of : ℕ → ℕ
ceiling_of time = (time * billion + 4294967295) / second

-- the transmit timestamp less and more the radius, in nanoseconds since 1970, rounded outward
abbrev pub ends_at : List ℕ → Interval
ends_at bytes = record { lo = floor_of (time_of (transmit_at bytes) - radius_at bytes); hi = ceiling_of (time_of (transmit_at bytes) + radius_at bytes) }

-- A time y, in grains, lies no further from the transmit timestamp than the radius and a margin of so many nanoseconds. In grains both a nanosecond and a unit are whole.
abbrev pub IsServerTime : ℕ → List ℕ → ℕ → Type 0
IsServerTime margin bytes y = distance y (time_of (transmit_at bytes) * billion) ≤ radius_at bytes * billion + margin * second

-- the interval holds, to the grain, each time that the reply allows, and with an end further in by a nanosecond it would not
pub record IsOutward (bytes : List ℕ) (i : Interval) : Type 0 where
  pub low : (y : ℕ) → IsServerTime 0 bytes y → i.lo * second ≤ y
  pub high : (y : ℕ) → IsServerTime 0 bytes y → y ≤ i.hi * second
  pub low_is_near : (time_of (transmit_at bytes) - radius_at bytes) * billion < (i.lo + 1) * second
  pub high_is_near : i.hi * second < (time_of (transmit_at bytes) + radius_at bytes) * billion + second
