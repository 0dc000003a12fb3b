-- Classes of widths of readings.
use Rattle.std.specs.Prelude.{ℕ, count_by, nat_lt, List, [], ◌∷◌}

-- the bounds of the classes: 0.1 ms to 10 s, in nanoseconds
abbrev pub width_bounds : List ℕ
width_bounds =
    100000 ∷ 250000 ∷ 500000 ∷ 1000000 ∷ 2500000 ∷ 5000000 ∷ 10000000 ∷ 25000000 ∷ 50000000 ∷ 100000000 ∷ 1000000000 ∷ 10000000000 ∷ []

-- the class of a width: how many bounds lie below it
abbrev pub width_place : ℕ → ℕ
width_place width = count_by (λ bound. nat_lt bound width) width_bounds
