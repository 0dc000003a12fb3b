-- A time as RFC 3339 writes it in UTC. No leap second is counted.
use Rattle.std.specs.Prelude.{codes, ◌≡◌, ℕ, ◌/◌, ◌%◌, pos, unsigned_abs, List, ◌++◌}
use Rattle.jiff_core.specs.declared.civil.date.Date.{Date}
use Rattle.jiff_core.specs.Date.{epoch_day}
use Rattle.tt_status.specs.Digits.{two_digits, four_digits, nine_digits}

-- the date of a time, in nanoseconds since 1970: its day number, counted from 1970-01-01, is that of the time. No other date has it
abbrev pub IsDateOf : ℕ → Date → Type 0
IsDateOf time date = epoch_day date ≡ pos (time / 86400000000000)

-- a date, as `2026-11-26`
unfoldable pub date_text : Date → List ℕ
date_text date = four_digits (unsigned_abs date.year) ++ codes "-" ++ two_digits date.month ++ codes "-" ++ two_digits date.day

-- the time of the day, as `23:41:51.123456789`
unfoldable pub clock_text : ℕ → List ℕ
clock_text time =
    two_digits (time / 3600000000000 % 24) ++ codes ":" ++ two_digits (time / 60000000000 % 60)
    ++ codes ":" ++ two_digits (time / 1000000000 % 60) ++ codes "." ++ nine_digits time

-- a time with its date, as `2026-11-26T23:41:51.123456789Z`
unfoldable pub moment_text : Date → ℕ → List ℕ
moment_text date time = date_text date ++ codes "T" ++ clock_text time ++ codes "Z"
