-- Widths over time, each as one character.
use Rattle.std.specs.Prelude.{ℕ, ◌+◌, ◌-◌, ◌*◌, ◌/◌, ◌==◌, min, max, Bool, if◌then◌else◌, List, [], ◌∷◌, fold, codes}

-- the least of these widths
abbrev pub least_of : List ℕ → ℕ
least_of widths = fold min 18446744073709551615 widths

-- the greatest of these widths
abbrev pub most_of : List ℕ → ℕ
most_of widths = fold max 0 widths

-- which of eight equal parts of what lies between the least and the greatest a width lies in, from 0 on
abbrev pub level_of : ℕ → ℕ → ℕ → ℕ
level_of least most width = 8 * (width - least) / (most - least + 1)

-- a character of ASCII, or a block (U+2581 to U+2588, which begin with the bytes 226 and 150)
abbrev pub level_word_of : Bool → List ℕ → ℕ → List ℕ
level_word_of ascii plain block = if ascii then plain else 226 ∷ 150 ∷ block ∷ []

-- the character for a level
abbrev pub level_word : Bool → ℕ → List ℕ
level_word ascii level =
    if level == 0 then level_word_of ascii (codes "_") 129 else
    if level == 1 then level_word_of ascii (codes ".") 130 else
    if level == 2 then level_word_of ascii (codes ":") 131 else
    if level == 3 then level_word_of ascii (codes "-") 132 else
    if level == 4 then level_word_of ascii (codes "=") 133 else
    if level == 5 then level_word_of ascii (codes "+") 134 else
    if level == 6 then level_word_of ascii (codes "*") 135 else
    level_word_of ascii (codes "#") 136
