-- The picture of a view, as text.
use Rattle.std.specs.Prelude.{ℕ, Option, Some, None, List, ◌++◌, codes}
use Rattle.std.specs.List.{flat_map}
use Rattle.tt_span.specs.Interval.{Interval}
use Rattle.tt_top.specs.declared.bars.Scale.{Scale}
use Rattle.tt_top.specs.declared.forms.Form.{Form}
use Rattle.tt_top.specs.declared.rises.Past.{Past}
use Rattle.tt_top.specs.declared.views.SourceView.{SourceView}
use Rattle.tt_top.specs.declared.views.View.{View}
use Rattle.tt_top.specs.Form.{bar_columns}
use Rattle.tt_top.specs.Bar.{reach_of, scale_over}
use Rattle.tt_top.specs.Row.{row_text, fused_text}
use Rattle.tt_top.specs.Head.{age_text, head_text, scale_text, no_scale_text, width_text, commits_text}
use Rattle.tt_top.specs.Sign.{signs_text}

-- a scale for bars without spans
abbrev pub plain_scale : Form → Scale
plain_scale form = record { start = 0; step = 1; columns = bar_columns form }

-- the bars on a scale, and the fused span
abbrev pub lines_text : Form → Scale → Interval → List SourceView → List ℕ
lines_text form scale fused sources = scale_text form scale ++ (flat_map (row_text form scale (Some fused)) sources ++ fused_text scale fused)

-- the scale, the bars on it, and the fused span
unfoldable pub scaled_text : Form → Interval → List SourceView → List ℕ
scaled_text form fused sources = lines_text form (scale_over (reach_of fused sources) (bar_columns form)) fused sources

-- the lines of sources without bars
unfoldable pub unscaled_text : Form → List SourceView → List ℕ
unscaled_text form sources = no_scale_text form ++ flat_map (row_text form (plain_scale form) None) sources

-- the same, where the fused span is known; where it is not, no bars
abbrev pub bars_of : Form → Option Interval → List SourceView → List ℕ
bars_of form None sources = unscaled_text form sources
bars_of form (Some fused) sources = scaled_text form fused sources

-- the bars of a view
abbrev pub bars_text : Form → View → List ℕ
bars_text form view = bars_of form view.fused view.sources.items

-- what the signs of the picture are
abbrev pub legend : List ℕ
legend = codes "= source  x suspect  # fused  < > beyond  ? none  [ ] ends held\n"

-- the picture of a view, with the widths of the looks before, and what was seen at them
abbrev pub view_text : Form → View → List ℕ → Past → List ℕ
view_text form view widths past =
    age_text form ++ (head_text view ++ (bars_text form view ++ (width_text form view widths ++ (commits_text view ++ (signs_text form past view ++ legend)))))
