-- What stands at the front of some bytes.
use Rattle.std.specs.Prelude.{◌≡◌, ◌≢◌, ℕ, ◌<◌, ◌≤◌, ◌^◌, List, ◌++◌, length, drop, All, slice_index}
use Rattle.std.specs.Char.{digit_value}
use Rattle.tt_text.specs.Line.{line_of}

-- no value that fits, with something behind it that may follow, is spelled by the bytes
abbrev pub ReadsNothing : {V : Type 0} → (V → List ℕ) → (V → Type 0) → (List ℕ → Type 0) → List ℕ → Type 0
ReadsNothing {V} spelling Fits Follows bytes =
    (v : V) (rest : List ℕ) → Fits v → Follows rest → bytes ≡ spelling v ++ rest → ⊥

-- the bytes spell v, with the rest behind it, and nothing else that fits
pub record Reads {V : Type 0} (spelling : V → List ℕ) (Fits : V → Type 0) (Follows : List ℕ → Type 0) (bytes : List ℕ) (v : V) (rest : List ℕ) : Type 0 where
  pub fits : Fits v
  pub follows : Follows rest
  pub is : bytes ≡ spelling v ++ rest
  pub only : (w : V) (other : List ℕ) → Fits w → Follows other → bytes ≡ spelling w ++ other → (w ≡ v) × (other ≡ rest)

-- the text spells v from one place on, up to another
abbrev pub ReadsUpTo : {V : Type 0} → (V → List ℕ) → (V → Type 0) → (List ℕ → Type 0) → List ℕ → ℕ → V → ℕ → Type 0
ReadsUpTo spelling Fits Follows text at v next = (next ≤ length text) × Reads spelling Fits Follows (drop at text) v (drop next text)

-- anything may follow
abbrev pub Anything : List ℕ → Type 0
Anything rest = Unit {0}

-- no digit follows
abbrev pub NoDigit : List ℕ → Type 0
NoDigit rest = 10 ≤ digit_value (slice_index rest 0)

-- the bytes begin with the word
abbrev pub BeginsWith : List ℕ → List ℕ → Type 0
BeginsWith word bytes = (rest : List ℕ) × (bytes ≡ word ++ rest)

-- the bytes begin with something else
abbrev pub NoWord : List ℕ → List ℕ → Type 0
NoWord word bytes = (rest : List ℕ) → bytes ≢ word ++ rest

-- a number that fits a u64
abbrev pub IsNumber : ℕ → Type 0
IsNumber n = n < 2 ^ 64

-- numbers that a line can hold
abbrev pub AreNumbers : List ℕ → Type 0
AreNumbers numbers = (length numbers ≤ 16) × All IsNumber numbers

-- a line, given with its line feed, is this word and these numbers, and no others
pub record IsLineOf (word line numbers : List ℕ) : Type 0 where
  pub fits : AreNumbers numbers
  pub is : line ≡ line_of word numbers
  pub only : (others : List ℕ) → AreNumbers others → line ≡ line_of word others → others ≡ numbers
