-- The width over time, as parts of an SVG document.
use Rattle.std.specs.Prelude.{ℕ, ◌+◌, ◌-◌, ◌*◌, ◌/◌, nat_lt, min, max, Bool, true, false, if◌then◌else◌, Option, Some, None, List, [], ◌∷◌, ◌++◌, length, drop, codes}
use Rattle.std.specs.Fmt.{decimal}
use Rattle.std.specs.List.{flat_map}
use Rattle.tt_top.specs.declared.forms.Form.{Form}
use Rattle.tt_top.specs.declared.pieces.Piece.TheVariants as piece
use Rattle.tt_top.specs.declared.views.View.{View}
use Rattle.tt_top.specs.Form.{wide_word}
use Rattle.tt_top.specs.Piece.{join, piece_text}
use Rattle.tt_top.specs.Spark.{most_of}

-- the last 200 widths
abbrev pub last_of : List ℕ → List ℕ
last_of widths = drop (length widths - 200) widths

-- the greatest of them
abbrev pub greatest_of : List ℕ → ℕ
greatest_of widths = most_of (last_of widths)

-- how high a width stands where another is the greatest, which has 150 units
abbrev pub height_over : ℕ → ℕ → ℕ
height_over width most = min (width * 150 / max most 1) 150

-- a width: a line up and down, and four units on
abbrev pub step_text : ℕ → ℕ → List ℕ
step_text most width = join (codes "v-" ∷ decimal (height_over width most) ∷ codes "v" ∷ decimal (height_over width most) ∷ codes "m4 0" ∷ [])

-- widths, the oldest first
abbrev pub steps_text : ℕ → List ℕ → List ℕ
steps_text most widths = flat_map (step_text most) widths

-- what the lines of so many widths begin with: the last one stands two units before the end of the axis
abbrev pub path_start : ℕ → ℕ → List ℕ
path_start base count = join (codes "<path class=\"width\" d=\"M" ∷ decimal (952 - 4 * min count 200) ∷ codes " " ∷ decimal base ∷ [])

-- the lines of these widths
abbrev pub path_of : ℕ → List ℕ → List ℕ
path_of base shown = path_start base (length shown) ++ (steps_text (most_of shown) shown ++ codes "\"/>\n")

-- the lines of the last widths
unfoldable pub steps_path : ℕ → List ℕ → List ℕ
steps_path base widths = path_of base (last_of widths)

-- the line below them, what its ends are, and the width of a reading now
unfoldable pub base_text : Form → View → ℕ → List ℕ
base_text form view base = join (
    codes "<path class=\"axis\" d=\"M150 " ∷ decimal base ∷ codes "h800\"/>\n<text x=\"150\" y=\"" ∷ decimal (base + 34)
    ∷ codes "\">10 min ago</text>\n<text class=\"end\" x=\"950\" y=\"" ∷ decimal (base + 34) ∷ codes "\">now</text>\n<text x=\"8\" y=\"" ∷ decimal (base - 34)
    ∷ codes "\">width</text>\n<text class=\"now" ∷ wide_word form view.width ∷ codes "\" x=\"8\" y=\"" ∷ decimal base ∷ codes "\">" ∷ piece_text (piece.Length view.width)
    ∷ codes "</text>\n" ∷ [])

-- the greatest width
abbrev pub top_line : ℕ → ℕ → List ℕ
top_line base greatest = join (
    codes "<text class=\"end\" x=\"950\" y=\"" ∷ decimal (base - 158) ∷ codes "\">at most " ∷ piece_text (piece.Length (Some greatest)) ∷ codes "</text>\n" ∷ [])

-- the line of a limit
abbrev pub limit_line : ℕ → ℕ → ℕ → List ℕ
limit_line base limit most = join (codes "<path class=\"limit\" d=\"M150 " ∷ decimal (base - height_over limit most) ∷ codes "h800\"/>\n" ∷ [])

-- the line of a limit, where some width is above it
abbrev pub limit_with : Option ℕ → ℕ → ℕ → List ℕ
limit_with None base most = []
limit_with (Some limit) base most = if nat_lt limit most then limit_line base limit most else []

-- the line of the greatest width that readings may have, where some width is above it
abbrev pub limit_text : Form → ℕ → List ℕ → List ℕ
limit_text form base widths = limit_with form.max_width base (greatest_of widths)

-- all of it
abbrev pub history_text : Form → View → ℕ → List ℕ → List ℕ
history_text form view base widths = steps_path base widths ++ (base_text form view base ++ (limit_text form base widths ++ top_line base (greatest_of widths)))
