-- How wide a picture is, and what makes it red.
use Rattle.std.specs.Prelude.{ℕ, ◌-◌, ◌*◌, ◌/◌, ◌&&◌, nat_lt, min, max, Bool, true, false, if◌then◌else◌, Option, Some, None, List, [], ◌∷◌, codes}
use Rattle.tt_top.specs.declared.forms.Form.{Form}

-- how many columns the bars have: the columns of the picture, 64 to 300, without the 51 of the other parts of a line
abbrev pub bar_columns : Form → ℕ
bar_columns form = min (max form.columns 64) 300 - 51

-- an age is above two of three such rounds, and above a second
abbrev pub is_past : Option ℕ → ℕ → Bool
is_past (Some age) three = nat_lt (max (three / 3 * 2) 1000000000) age
is_past None three = false

-- the status is older than two rounds
abbrev pub is_old : Form → Bool
is_old form = is_past form.age form.silent_after

-- a width is above a limit, if both are known
abbrev pub is_above : Option ℕ → Option ℕ → Bool
is_above (Some width) (Some most) = nat_lt most width
is_above _ _ = false

-- readings of this width are wider than the limit
abbrev pub is_wide : Form → Option ℕ → Bool
is_wide form width = is_above width form.max_width

-- the word for that
abbrev pub wide_word : Form → Option ℕ → List ℕ
wide_word form width = if is_wide form width then codes " wide" else []

-- what makes text red, where that is wanted: an escape (27), and `[31m`
abbrev pub red_word : Form → Bool → List ℕ
red_word form wanted = if form.colour && wanted then 27 ∷ codes "[31m" else []

-- what ends red text, where that is wanted
abbrev pub plain_word : Form → Bool → List ℕ
plain_word form wanted = if form.colour && wanted then 27 ∷ codes "[0m" else []
