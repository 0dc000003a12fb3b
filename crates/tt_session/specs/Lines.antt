-- Lines of bytes.
use Rattle.std.specs.Prelude.{◌≡◌, ◌≢◌, ℕ, ◌==◌, if◌then◌else◌, List, [], ◌∷◌, ◌++◌, All}
use Rattle.std.specs.List.{flat_map}

-- the most bytes that a line may have before its line feed
abbrev pub max_line : ℕ
max_line = 64

-- none of the bytes is a line feed
abbrev pub HasNoEnd : List ℕ → Type 0
HasNoEnd bytes = All (λ b. b ≢ 10) bytes

-- a line with its line feed
abbrev pub ended : List ℕ → List ℕ
ended line = line ++ 10 ∷ []

-- the bytes are these lines, each with its line feed, and a rest behind the last line feed
pub record Splits (bytes : List ℕ) (lines : List (List ℕ)) (rest : List ℕ) : Type 0 where
  pub whole : bytes ≡ flat_map ended lines ++ rest
  pub each : All HasNoEnd lines
  pub last : HasNoEnd rest

-- a byte in front of the first line, if there is one
abbrev pub onto_first : ℕ → List (List ℕ) → List (List ℕ)
onto_first b [] = []
onto_first b (line ∷ lines) = (b ∷ line) ∷ lines

-- a byte in front of the rest, if no line stands before it
abbrev pub onto_rest : ℕ → List (List ℕ) → List ℕ → List ℕ
onto_rest b [] rest = b ∷ rest
onto_rest b (line ∷ lines) rest = rest

-- the lines of some bytes, computed
abbrev pub lines_of : List ℕ → List (List ℕ)
lines_of [] = []
lines_of (b ∷ bytes) = if b == 10 then [] ∷ lines_of bytes else onto_first b (lines_of bytes)

-- what stands behind the last line feed of some bytes, computed
abbrev pub rest_of : List ℕ → List ℕ
rest_of [] = []
rest_of (b ∷ bytes) = if b == 10 then rest_of bytes else onto_rest b (lines_of bytes) (rest_of bytes)
