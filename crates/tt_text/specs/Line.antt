-- Lines of a word and numbers.
use Rattle.std.specs.Prelude.{ℕ, List, [], ◌∷◌, ◌++◌}
use Rattle.std.specs.Fmt.{decimal}
use Rattle.std.specs.List.{flat_map}
use Rattle.tt_span.specs.Interval.{Interval}

-- a space, and the decimal digits of a number, with no zero in front
abbrev pub space_and_number : ℕ → List ℕ
space_and_number n = 32 ∷ decimal n

-- the numbers of a line, and the line feed at its end
abbrev pub numbers_text : List ℕ → List ℕ
numbers_text numbers = flat_map space_and_number numbers ++ 10 ∷ []

-- a line: a word, and numbers, each behind one space
abbrev pub line_of : List ℕ → List ℕ → List ℕ
line_of word numbers = word ++ numbers_text numbers

-- the two numbers that a span has in a line
abbrev pub ends_of : Interval → List ℕ
ends_of span = span.lo ∷ span.hi ∷ []
