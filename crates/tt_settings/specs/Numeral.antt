-- Decimal numbers.
use Rattle.std.specs.Prelude.{ℕ, ◌&&◌, nat_eq, nat_le, if◌then◌else◌, List, Option, Some, None}
use Rattle.std.specs.Cmp.Lexicographic.{pointwise}
use Rattle.std.specs.Fmt.{decimal}
use Rattle.std.specs.Str.Parse.{digits_value}

-- the number that the digits write in decimal, with no zero in front, up to the greatest
abbrev pub number_of : ℕ → List ℕ → Option ℕ
number_of most digits =
    let n = digits_value 10 digits in
    if pointwise nat_eq digits (decimal n) && nat_le n most then Some n else None
