-- The text of a file of keys.
use Rattle.std.specs.Prelude.{◌≡◌, ◌⊎◌, ℕ, ◌+◌, List, [], ◌∷◌, ◌++◌, length, ◌==◌, Some, None}
use Rattle.std.specs.List.{slice_split}
use Rattle.tt_seal.specs.Sealing.{SealKey, key_with, HaveOwnNumbers}
use Rattle.tt_keys.specs.Line.{IsSkipped, IsKeyLine, IsNoKeyLine}
use Rattle.tt_keys.specs.declared.faults.KeysFault.{KeysFault}
use Rattle.tt_keys.specs.declared.faults.KeysFault.TheVariants.{BadLine, SameNumber, Memory}

-- the lines of a text: what stands before, between and behind its line feeds
abbrev pub lines_of : List ℕ → List (List ℕ)
lines_of text = slice_split (λ byte. byte == 10) text

-- the lines are those of these keys, in this order, and lines that are skipped
abbrev pub AreKeysOf : List (List ℕ) → List SealKey → Type 0
AreKeysOf [] keys = keys ≡ []
AreKeysOf (line ∷ lines) keys = (IsSkipped line × AreKeysOf lines keys)
    ⊎ ((key : SealKey) × (others : List SealKey) × IsKeyLine line key × (keys ≡ key ∷ others) × AreKeysOf lines others)

-- the text has these keys, in this order, and no two have one number
pub record IsKeysText (text : List ℕ) (keys : List SealKey) : Type 0 where
  pub are : AreKeysOf (lines_of text) keys
  pub own : HaveOwnNumbers keys

-- the line is that of a key whose number no key before it has
pub record IsNewKey (keys : List SealKey) (line : List ℕ) (key : SealKey) : Type 0 where
  pub is : IsKeyLine line key
  pub new : key_with keys key.number ≡ None

-- behind these keys the line adds nothing, since it is skipped, or its key, whose number is new
abbrev pub Adds : List SealKey → List ℕ → List SealKey → Type 0
Adds keys line after = (IsSkipped line × (after ≡ keys)) ⊎ ((key : SealKey) × IsNewKey keys line key × (after ≡ keys ++ key ∷ []))

-- behind these keys the line with this number is refused: no key has it, or a key before it has the number of its key; or its key is new, and an allocation failed
abbrev pub IsRefused : List SealKey → List ℕ → ℕ → KeysFault → Type 0
IsRefused keys line number (BadLine bad) = (bad ≡ number) × (IsSkipped line → ⊥) × IsNoKeyLine line
IsRefused keys line number (SameNumber bad) = (bad ≡ number) × ((key : SealKey) × (other : SealKey) × IsKeyLine line key × (key_with keys key.number ≡ Some other))
IsRefused keys line number Memory = (key : SealKey) × IsNewKey keys line key
IsRefused keys line number _ = ⊥

-- some line of the text, counted from 1, is refused so behind the keys of the lines before it
pub record IsTextFault (text : List ℕ) (fault : KeysFault) : Type 0 where
  pub before : List (List ℕ)
  pub line : List ℕ
  pub after : List (List ℕ)
  pub keys : List SealKey
  pub lines_are : lines_of text ≡ before ++ line ∷ after
  pub are : AreKeysOf before keys
  pub own : HaveOwnNumbers keys
  pub refused : IsRefused keys line (length before + 1) fault
