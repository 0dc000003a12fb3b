-- The lines about the machine: its life, its scale, its width over time, and its commits.
use Rattle.std.specs.Prelude.{ℕ, ◌-◌, ◌/◌, ◌==◌, nat_lt, Bool, if◌then◌else◌, Option, Some, None, List, [], ◌∷◌, ◌++◌, length, drop, codes}
use Rattle.std.specs.Fmt.{decimal}
use Rattle.std.specs.List.{flat_map}
use Rattle.tt_top.specs.declared.bars.Scale.{Scale}
use Rattle.tt_top.specs.declared.forms.Form.{Form}
use Rattle.tt_top.specs.declared.pieces.Piece.TheVariants as piece
use Rattle.tt_top.specs.declared.views.View.{View}
use Rattle.tt_top.specs.Form.{bar_columns, is_old, red_word, plain_word}
use Rattle.tt_top.specs.Piece.{join, blanks_text, length_text, piece_text}
use Rattle.tt_top.specs.Spark.{least_of, most_of, level_of, level_word}

-- the line of an age, with a mark if it is old
abbrev pub age_line : Form → Bool → ℕ → List ℕ
age_line form old age = join (
    red_word form old ∷ (if old then codes "! status " else codes "status ") ∷ length_text age ∷ codes " old" ∷ plain_word form old ∷ codes "\n" ∷ [])

-- the same, if the age is known
abbrev pub age_if : Form → Option ℕ → List ℕ
age_if form None = []
age_if form (Some age) = age_line form (is_old form) age

-- how old the status is
abbrev pub age_text : Form → List ℕ
age_text form = age_if form form.age

-- how many sources may be wrong, if that is known, and the end of the line
abbrev pub faulty_text : Option ℕ → List ℕ
faulty_text None = codes "\n"
faulty_text (Some n) = join (codes "  f " ∷ decimal n ∷ codes "\n" ∷ [])

-- the front of the line of a machine's life
abbrev pub life_text : View → List ℕ
life_text view = join (
    codes "machine " ∷ decimal view.life.machine ∷ codes "  epoch " ∷ decimal view.life.epoch ∷ codes "  rounds " ∷ decimal view.life.rounds
    ∷ codes "  sources " ∷ decimal (length view.sources.items) ∷ codes "  known " ∷ decimal view.life.known ∷ [])

-- the line of a machine's life
unfoldable pub head_text : View → List ℕ
head_text view = life_text view ++ faulty_text view.faulty

-- what stands behind the bars
abbrev pub titles : List ℕ
titles = codes "      offset round trip        age ends\n"

-- the line of a scale: how much a column is
abbrev pub scale_text : Form → Scale → List ℕ
scale_text form scale = join (codes "each =" ∷ length_text scale.step ∷ blanks_text (bar_columns form - 10) ∷ titles ∷ [])

-- the line in place of it where there is no evidence
abbrev pub no_scale_text : Form → List ℕ
no_scale_text form = join (codes "no evidence file" ∷ blanks_text (bar_columns form - 10) ∷ titles ∷ [])

-- the last of these widths, as many as have a column
abbrev pub shown_of : Form → List ℕ → List ℕ
shown_of form widths = drop (length widths - bar_columns form) widths

-- widths as characters, and the least and the greatest of them
unfoldable pub range_text : Bool → List ℕ → List ℕ
range_text ascii widths =
    codes "  " ++ flat_map (λ width. level_word ascii (level_of (least_of widths) (most_of widths) width)) widths
    ++ join (codes " " ∷ length_text (least_of widths) ∷ codes " to " ∷ length_text (most_of widths) ∷ [])

-- the same of two or more; nothing of fewer
abbrev pub levels_text : Bool → List ℕ → List ℕ
levels_text ascii widths = if nat_lt (length widths) 2 then [] else range_text ascii widths

-- the line of the width: that of a reading now, and the widths before it
unfoldable pub width_text : Form → View → List ℕ → List ℕ
width_text form view widths =
    join (codes "width " ∷ piece_text (piece.Length view.width) ∷ []) ++ levels_text form.ascii (shown_of form widths) ++ codes "\n"

-- what each of so many has of a sum on average, if there are any
abbrev pub mean_of : ℕ → ℕ → Option ℕ
mean_of sum count = if count == 0 then None else Some (sum / count)

-- whether a shared file is written
abbrev pub sharing_word : Bool → List ℕ
sharing_word sharing = if sharing then codes "yes" else codes "no"

-- the line of the commits
abbrev pub commits_text : View → List ℕ
commits_text view = join (
    codes "commits waiting " ∷ decimal view.commits.waiting ∷ codes "  waited " ∷ decimal view.commits.waited
    ∷ codes "  mean wait " ∷ piece_text (piece.Length (mean_of view.commits.together view.commits.waited))
    ∷ codes "  shared " ∷ sharing_word view.sharing ∷ codes "\n" ∷ [])
