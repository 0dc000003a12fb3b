-- The line of a key.
use Rattle.std.specs.Prelude.{◌≡◌, ◌≢◌, ℕ, ◌<◌, ◌&&◌, Bool, nat_lt, List, [], ◌∷◌, ◌++◌, length}
use Rattle.std.specs.Fmt.{decimal}
use Rattle.std.specs.List.{AllByRecursion, list_all}
use Rattle.hex.specs.Hex.{encode_lower}
use Rattle.tt_seal.specs.Sealing.{SealKey, IsKey, IsBytes}

-- the line of a key without a name: its number in decimal digits, a blank, and its bytes in hexadecimal digits
abbrev pub line_of : SealKey → List ℕ
line_of key = decimal key.number ++ 32 ∷ encode_lower key.bytes

-- a printable character of ASCII, not a blank
abbrev pub IsNameByte : ℕ → Type 0
IsNameByte byte = (32 < byte) × (byte < 127)

-- a name: not empty, and each byte is such a character
abbrev pub IsName : List ℕ → Type 0
IsName name = (0 < length name) × AllByRecursion IsNameByte name

-- the same as tests
abbrev pub is_name_byte : ℕ → Bool
is_name_byte byte = nat_lt 32 byte && nat_lt byte 127

abbrev pub is_name : List ℕ → Bool
is_name name = nat_lt 0 (length name) && list_all is_name_byte name

-- what may follow the digits: nothing, or a blank and a name
abbrev pub IsEnding : List ℕ → Type 0
IsEnding [] = Unit {0}
IsEnding (first ∷ name) = (first ≡ 32) × IsName name

-- the line is that of this key, perhaps with a name
pub record IsKeyLine (line : List ℕ) (key : SealKey) : Type 0 where
  pub in_range : IsKey key
  pub are_bytes : IsBytes key.bytes
  pub ending : List ℕ
  pub ends : IsEnding ending
  pub is : line ≡ line_of key ++ ending

-- no key has this line
abbrev pub IsNoKeyLine : List ℕ → Type 0
IsNoKeyLine line = (key : SealKey) → IsKeyLine line key → ⊥

-- an empty line, or one that begins with `#`
abbrev pub IsSkipped : List ℕ → Type 0
IsSkipped [] = Unit {0}
IsSkipped (first ∷ rest) = first ≡ 35

-- the byte is nowhere in the list
abbrev pub Lacks : ℕ → List ℕ → Type 0
Lacks byte bytes = AllByRecursion (λ other. other ≢ byte) bytes
