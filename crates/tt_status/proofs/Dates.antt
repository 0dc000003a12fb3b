-- The date that has a day number.
use Rattle.std.proofs.Common.{◌≡◌, ℕ, arith, pos, ◌≤ℤ◌}
use Rattle.std.proofs.lemmas.Int.{by_lt_z}
use Rattle.jiff_core.specs.declared.civil.date.Date.{Date}
use Rattle.jiff_core.specs.Date.{epoch_day}
use Rattle.jiff_core.proofs.SignedLemmas.{signed_arith}
use Rattle.jiff_core.proofs.CalendarLemmas.{days_from_civil-day_count, day_count-lt_year, day_count-epoch}
use Rattle.jiff_core.proofs.DateLemmas.{civil}

-- a date whose day number is not negative is not before 1970
pub not_before_1970 : (d : Date) (n : ℕ) → epoch_day d ≡ pos n → pos 1970 ≤ℤ d.year
not_before_1970 d n is =
    by_lt_z d.year (pos 1970)
    (λ before. absurd (omega (arith, signed_arith, is, days_from_civil-day_count d.year d.month d.day, day_count-lt_year d.year d.month d.day (pos 1970) 1 1 (civil d) (omega arith) before, day_count-epoch)))
    (λ since. since)
