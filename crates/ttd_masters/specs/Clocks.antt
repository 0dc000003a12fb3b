-- What a master's clock shows.
use Rattle.std.specs.Prelude.{ℕ, ◌+◌, ◌-◌, ◌<◌, nat_le, Option, Some, None, if◌then◌else◌}
use Rattle.tt_span.specs.Time.{max_time}
use Rattle.ttd_words.specs.declared.requests.Offset.{Offset}
use Rattle.ttd_words.specs.declared.requests.Offset.TheVariants.{Later, Earlier}

-- a time in nanoseconds, where it is one
abbrev pub within_time : ℕ → Option ℕ
within_time time = if nat_le time max_time then Some time else None

-- what a clock that is off so much shows at a time, where that is a time: none before 0 and none past the greatest
abbrev pub shown_at : Offset → ℕ → Option ℕ
shown_at (Later by) time = within_time (time + by)
shown_at (Earlier by) time = if nat_le by time then within_time (time - by) else None
