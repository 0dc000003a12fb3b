-- Lengths of time with a unit, in nanoseconds.
use Rattle.std.specs.Prelude.{codes, ℕ, ◌*◌, ◌-◌, nat_eq, if◌then◌else◌, List, ◌++◌, length, take, Option, Some, None, option_map}
use Rattle.std.specs.Cmp.Lexicographic.{pointwise}
use Rattle.tt_settings.specs.Numeral.{number_of}

-- the greatest number before a unit
abbrev pub max_amount : ℕ
max_amount = 1000000000

-- the length that a text writes in this unit
abbrev pub in_unit : List ℕ → ℕ → List ℕ → Option ℕ
in_unit unit scale text =
    let digits = take (length text - length unit) text in
    if pointwise nat_eq text (digits ++ unit) then option_map (λ n. n * scale) (number_of max_amount digits) else None

-- the first that there is
abbrev pub or_else : Option ℕ → Option ℕ → Option ℕ
or_else (Some n) other = Some n
or_else None other = other

-- the length that a text writes: nanoseconds, microseconds, milliseconds or seconds
abbrev pub duration_of : List ℕ → Option ℕ
duration_of text =
    or_else (in_unit (codes "ns") 1 text)
    (or_else (in_unit (codes "us") 1000 text)
    (or_else (in_unit (codes "ms") 1000000 text)
    (in_unit (codes "s") 1000000000 text)))
