-- Durations in nanoseconds, as numbers of 64 bits.
use Rattle.std.specs.Prelude.{ℕ, ◌^◌, nat_lt, nat_le, if◌then◌else◌, Option, Some, None}
use Rattle.tt_span.specs.Time.{max_time}

-- so many nanoseconds, where 64 bits hold their number
abbrev pub nanoseconds_of : ℕ → Option ℕ
nanoseconds_of nanos = if nat_lt nanos (2 ^ 64) then Some nanos else None

-- the time that a clock shows so many nanoseconds after its zero, where it is a time
abbrev pub time_of : ℕ → Option ℕ
time_of nanos = if nat_le nanos max_time then Some nanos else None
