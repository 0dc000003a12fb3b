-- Bars: spans on a scale.
use Rattle.std.specs.Prelude.{ℕ, ◌+◌, ◌-◌, ◌*◌, ◌/◌, ◌&&◌, ◌==◌, nat_lt, nat_le, min, max, if◌then◌else◌, Option, Some, None, List, fold, codes}
use Rattle.std.specs.List.{flat_map, range_with_len}
use Rattle.tt_span.specs.Interval.{Interval}
use Rattle.tt_top.specs.declared.bars.Bar.{Bar}
use Rattle.tt_top.specs.declared.bars.Mark.{Mark}
use Rattle.tt_top.specs.declared.bars.Mark.TheVariants.{Source, Suspect, Fused, Unknown, Absent}
pub use Rattle.tt_top.specs.declared.bars.Reach.{Reach}
use Rattle.tt_top.specs.declared.bars.Scale.{Scale}
use Rattle.tt_top.specs.declared.views.SourceView.{SourceView}

-- the times that have to be on the scale, and a span too, if there is one
abbrev pub reach_and : Reach → Option Interval → Reach
reach_and reach None = reach
reach_and reach (Some span) = record { lo = min reach.lo span.lo; hi = max reach.hi span.hi }

-- the same with another source; suspects may lie beyond the scale
abbrev pub reach_with : Reach → SourceView → Reach
reach_with reach source = if source.suspect then reach else reach_and reach source.span

-- the times that have to be on the scale: the fused span, and those of the sources that are no suspects
abbrev pub reach_of : Interval → List SourceView → Reach
reach_of fused sources = fold reach_with (record { lo = fused.lo; hi = fused.hi }) sources

-- the scale of so many columns for these times: all but four columns are longer than they are, and two are before them
abbrev pub scale_over : Reach → ℕ → Scale
scale_over reach columns =
    let step = (reach.hi - reach.lo) / (columns - 4) + 1 in
    record { start = reach.lo - 2 * step; step = step; columns = columns }

-- the first time of a column
abbrev pub edge_of : Scale → ℕ → ℕ
edge_of scale column = scale.start + column * scale.step

-- the character for each mark
abbrev pub mark_word : Mark → List ℕ
mark_word Source = codes "="
mark_word Suspect = codes "x"
mark_word Fused = codes "#"
mark_word Unknown = codes "?"
mark_word Absent = codes " "

-- what a column shows of a span: an arrow in the first one if the span begins before it, an arrow in the last one if the span ends behind it,
-- the mark if some time of the column lies in the span, and else a blank
abbrev pub span_cell : Scale → Mark → Interval → ℕ → List ℕ
span_cell scale mark span column =
    if column == 0 && nat_lt span.lo (edge_of scale column) then codes "<" else
    if column + 1 == scale.columns && nat_le (edge_of scale (column + 1)) span.hi then codes ">" else
    if nat_lt span.lo (edge_of scale (column + 1)) && nat_le (edge_of scale column) span.hi then mark_word mark else codes " "

-- the same of a span, if there is one; each column has the mark if there is none
abbrev pub cell_of : Scale → Mark → Option Interval → ℕ → List ℕ
cell_of scale mark None column = mark_word mark
cell_of scale mark (Some span) column = span_cell scale mark span column

-- what a column of a bar shows
abbrev pub cell_text : Bar → ℕ → List ℕ
cell_text bar column = cell_of bar.scale bar.mark bar.span column

-- a bar, column by column
unfoldable pub bar_text : Bar → List ℕ
bar_text bar = flat_map (cell_text bar) (range_with_len 0 bar.scale.columns)
