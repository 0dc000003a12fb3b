-- Pieces of a line, as text.
use Rattle.std.specs.Prelude.{ℕ, ◌/◌, ◌%◌, nat_lt, ◌==◌, if◌then◌else◌, Some, None, List, [], ◌++◌, codes}
use Rattle.std.specs.Fmt.{decimal}
use Rattle.std.specs.List.{flat_map, range_with_len}
use Rattle.tt_top.specs.declared.pieces.Offset.{Offset}
use Rattle.tt_top.specs.declared.pieces.Piece.{Piece}
use Rattle.tt_top.specs.declared.pieces.Piece.TheVariants.{Word, Number, Length, Blanks, Bar}
use Rattle.tt_top.specs.declared.pieces.Piece.TheVariants as piece
use Rattle.tt_top.specs.Bar.{bar_text}

-- texts, one behind the other
abbrev pub join : List (List ℕ) → List ℕ
join texts = flat_map (λ t. t) texts

-- the blanks that make three columns of a number below 1000
abbrev pub blanks_for : ℕ → List ℕ
blanks_for n = if nat_lt n 10 then codes "  " else if nat_lt n 100 then codes " " else []

-- so many thousandths of a unit behind a sign, with three digits behind the point
unfoldable pub in_unit : List ℕ → ℕ → List ℕ → List ℕ
in_unit sign n unit =
    blanks_for (n / 1000) ++ sign ++ decimal (n / 1000) ++ codes "." ++ (decimal (n / 100 % 10) ++ decimal (n / 10 % 10) ++ decimal (n % 10) ++ unit)

-- nanoseconds behind a sign: as microseconds where they are less than a millisecond, as milliseconds where they are less than a second,
-- and else as seconds; what is less than the last digit shows is left out
abbrev pub length_with : List ℕ → ℕ → List ℕ
length_with sign n =
    if nat_lt n 1000000 then in_unit sign n (codes " us") else if nat_lt n 1000000000 then in_unit sign (n / 1000) (codes " ms") else in_unit sign (n / 1000000) (codes "  s")

-- a length of time
abbrev pub length_text : ℕ → List ℕ
length_text n = length_with [] n

-- the sign of an offset
abbrev pub sign_of : Offset → List ℕ
sign_of offset = if offset.size == 0 then codes " " else if offset.below then codes "-" else codes "+"

-- an offset
abbrev pub offset_text : Offset → List ℕ
offset_text offset = length_with (sign_of offset) offset.size

-- so many blanks
unfoldable pub blanks_text : ℕ → List ℕ
blanks_text n = flat_map (λ _. codes " ") (range_with_len 0 n)

-- a piece of a line; what is not known is a `-`
abbrev pub piece_text : Piece → List ℕ
piece_text (Word word) = word.now
piece_text (Number n) = decimal n
piece_text (Length None) = codes "         -"
piece_text (Length (Some n)) = length_text n
piece_text (piece.Offset None) = codes "          -"
piece_text (piece.Offset (Some offset)) = offset_text offset
piece_text (Blanks n) = blanks_text n
piece_text (Bar bar) = bar_text bar
