-- Numbers in the texts of a status and of evidence.
use Rattle.std.specs.Prelude.{ℕ, suc, zero, ◌+◌, ◌-◌, ◌*◌, ◌&&◌, ◌==◌, nat_eq, nat_le, Bool, true, false, if◌then◌else◌, Option, Some, None, List, [], ◌∷◌, ◌++◌, length, drop, codes}
use Rattle.std.specs.List.{starts_with}
use Rattle.std.specs.Fmt.{decimal}
use Rattle.tt_span.specs.Time.{max_time}
use Rattle.tt_span.specs.Interval.{Interval}

-- what stands behind the words in the first line that begins with them; the flag says whether a line begins here
abbrev pub behind_first : List ℕ → Bool → List ℕ → Option (List ℕ)
behind_first words fresh [] = None
behind_first words fresh (b ∷ rest) =
    if fresh && starts_with nat_eq (b ∷ rest) words then Some (drop (length words) (b ∷ rest)) else behind_first words (b == 10) rest

-- whether a byte is a digit
abbrev pub is_digit : ℕ → Bool
is_digit b = nat_le 48 b && nat_le b 57

-- the number in front of the first such byte, behind digits of this value, and what stands behind that byte; points (46) do not count
abbrev pub front : ℕ → ℕ → List ℕ → Option (ℕ × List ℕ)
front stop n [] = None
front stop n (b ∷ rest) =
    if b == stop then Some (n, rest) else
    if b == 46 then front stop n rest else
    if is_digit b && nat_le n 1844674407370955160 then front stop (10 * n + (b - 48)) rest else None

-- the number of what was read
abbrev pub number_in : Option (ℕ × List ℕ) → Option ℕ
number_in None = None
number_in (Some read) = Some read.0

-- the number in front of the first such byte, if there is a text
abbrev pub number_if : ℕ → Option (List ℕ) → Option ℕ
number_if stop None = None
number_if stop (Some rest) = number_in (front stop 0 rest)

-- the number behind the words in the first line that begins with them
abbrev pub number_behind : List ℕ → ℕ → List ℕ → Option ℕ
number_behind words stop text = number_if stop (behind_first words true text)

-- two numbers as a span, if they are the ends of one
abbrev pub span_of : ℕ → ℕ → Option Interval
span_of lo hi = if nat_le lo hi && nat_le hi max_time then Some (record { lo = lo; hi = hi }) else None

-- a number and what stands behind it as a span: the second number stands in front of the line feed
abbrev pub span_with : ℕ → Option (ℕ × List ℕ) → Option Interval
span_with lo None = None
span_with lo (Some read) = span_of lo read.0

abbrev pub span_behind : Option (ℕ × List ℕ) → Option Interval
span_behind None = None
span_behind (Some read) = span_with read.0 (front 10 0 read.1)

-- the span of two numbers with a blank between them, in front of a line feed
abbrev pub span_front : List ℕ → Option Interval
span_front text = span_behind (front 32 0 text)

-- what stands behind the words in the next line that begins with them
abbrev pub again : List ℕ → Option (List ℕ) → Option (List ℕ)
again words None = None
again words (Some rest) = behind_first words false rest

-- what stands behind the words in the line with this number, of those that begin with them
abbrev pub nth_behind : List ℕ → ℕ → List ℕ → Option (List ℕ)
nth_behind words zero text = behind_first words true text
nth_behind words (suc n) text = again words (nth_behind words n text)

-- what a line begins with that has the value of a metric
abbrev pub words_of : ℕ → List ℕ → List ℕ → List ℕ
words_of machine name labels = name ++ codes "{machine=\"" ++ decimal machine ++ codes "\"" ++ labels ++ codes "} "

-- the value of a metric of a machine
abbrev pub value_of : List ℕ → ℕ → List ℕ → List ℕ → Option ℕ
value_of status machine name labels = number_behind (words_of machine name labels) 10 status
