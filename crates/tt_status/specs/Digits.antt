-- Numbers with a fixed count of digits, and nanoseconds as seconds.
use Rattle.std.specs.Prelude.{codes, ℕ, ◌/◌, ◌%◌, ◌&&◌, nat_lt, if◌then◌else◌, List, ◌++◌}
use Rattle.std.specs.Fmt.{decimal}
use Rattle.tt_status.specs.declared.digits.Difference.{Difference}

-- the last two digits of a number
abbrev pub two_digits : ℕ → List ℕ
two_digits n = decimal (n / 10 % 10) ++ decimal (n % 10)

-- the last three digits of a number
abbrev pub three_digits : ℕ → List ℕ
three_digits n = decimal (n / 100 % 10) ++ decimal (n / 10 % 10) ++ decimal (n % 10)

-- the last four digits of a number
unfoldable pub four_digits : ℕ → List ℕ
four_digits n = two_digits (n / 100) ++ two_digits n

-- the last nine digits of a number
unfoldable pub nine_digits : ℕ → List ℕ
nine_digits n = three_digits (n / 1000000) ++ three_digits (n / 1000) ++ three_digits n

-- nanoseconds as seconds, exactly: with nine digits behind the point
unfoldable pub seconds_text : ℕ → List ℕ
seconds_text n = decimal (n / 1000000000) ++ codes "." ++ nine_digits n

-- parts per billion as parts per million, exactly: with three digits behind the point
unfoldable pub millionths_text : ℕ → List ℕ
millionths_text n = decimal (n / 1000) ++ codes "." ++ three_digits n

-- a rate in parts per billion as parts per million, with its sign where it is below 0
abbrev pub rate_text : Difference → List ℕ
rate_text d = if d.below && nat_lt 0 d.size then codes "-" ++ millionths_text d.size else millionths_text d.size

-- a difference in nanoseconds as seconds, with its sign where it is below 0
abbrev pub difference_text : Difference → List ℕ
difference_text d = if d.below && nat_lt 0 d.size then codes "-" ++ seconds_text d.size else seconds_text d.size
