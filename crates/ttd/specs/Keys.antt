-- The line that `key` prints.
use Rattle.std.specs.Prelude.{ℕ, List, [], ◌∷◌, ◌++◌, Option, Some, None}
use Rattle.tt_seal.specs.Sealing.{SealKey}
use Rattle.tt_keys.specs.Line.{line_of}

-- what may follow the digits of a key: its name behind a blank, where it has one
abbrev pub ending_of : Option (List ℕ) → List ℕ
ending_of (Some name) = 32 ∷ name
ending_of None = []

-- the line of a key and its name, with a line feed
abbrev pub named_line : SealKey → Option (List ℕ) → List ℕ
named_line key name = line_of key ++ ending_of name ++ 10 ∷ []
