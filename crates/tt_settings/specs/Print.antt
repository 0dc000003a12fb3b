-- What stands behind the front of a text.
use Rattle.std.specs.Prelude.{codes, ℕ, nat_eq, if◌then◌else◌, List, [], ◌∷◌, ◌++◌, flat_map, Option, Some, None}
use Rattle.std.specs.Net.Text.{hex}

-- what stands behind these bytes, where the text begins with them
abbrev pub behind : List ℕ → List ℕ → Option (List ℕ)
behind [] text = Some text
behind (b ∷ front) [] = None
behind (b ∷ front) (c ∷ text) = if nat_eq b c then behind front text else None

-- the same of a text that may be absent
unfoldable pub behind_in : List ℕ → Option (List ℕ) → Option (List ℕ)
behind_in front None = None
behind_in front (Some text) = behind front text

-- segments in hexadecimal, each behind a colon
abbrev pub later_groups : List ℕ → List ℕ
later_groups segments = flat_map (λ s. codes ":" ++ hex s) segments
