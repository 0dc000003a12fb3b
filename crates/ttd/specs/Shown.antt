-- How bytes of another process are shown.
use Rattle.std.specs.Prelude.{ℕ, ◌+◌, ◌/◌, ◌%◌, ◌&&◌, ◌||◌, Bool, nat_eq, nat_le, nat_lt, if◌then◌else◌, List, [], ◌∷◌, ◌++◌}

-- a byte is shown as it is: a printable character of ASCII, or a line feed
abbrev pub is_plain : ℕ → Bool
is_plain byte = nat_eq byte 10 || (nat_le 32 byte && nat_lt byte 127)

-- a hexadecimal digit in lower case
abbrev pub digit_of : ℕ → ℕ
digit_of n = if nat_lt n 10 then 48 + n else 87 + n

-- what is shown of a byte: itself, or `\x` and its two digits
abbrev pub shown_as : ℕ → List ℕ
shown_as byte = if is_plain byte then byte ∷ [] else 92 ∷ 120 ∷ digit_of (byte / 16) ∷ digit_of (byte % 16) ∷ []

-- what is shown of bytes
abbrev pub shown : List ℕ → List ℕ
shown [] = []
shown (byte ∷ others) = shown_as byte ++ shown others
