-- The spans of a view on an axis, as parts of an SVG document. A row has 40 units.
use Rattle.std.specs.Prelude.{ℕ, ◌+◌, ◌-◌, ◌*◌, nat_lt, min, true, false, if◌then◌else◌, Option, Some, None, List, [], ◌∷◌, ◌++◌, length, codes}
use Rattle.std.specs.Fmt.{decimal}
use Rattle.std.specs.List.{flat_map}
use Rattle.tt_span.specs.Interval.{Interval}
use Rattle.tt_top.specs.declared.forms.Form.{Form}
use Rattle.tt_top.specs.declared.pieces.Offset.{Offset}
use Rattle.tt_top.specs.declared.pieces.Piece.TheVariants as piece
use Rattle.tt_top.specs.declared.rulers.Ruler.{Ruler}
use Rattle.tt_top.specs.declared.views.SourceView.{SourceView}
use Rattle.tt_top.specs.Piece.{join, piece_text}
use Rattle.tt_top.specs.Row.{apart_of, source_offset, state_word, fused_length}
use Rattle.tt_top.specs.Ruler.{ruler_of, left_of, extent_of, time_at}

-- where a row begins
abbrev pub row_of : ℕ → ℕ
row_of number = 40 * min number 1000

-- a bar in a row
abbrev pub bar_rect : ℕ → ℕ → ℕ → List ℕ
bar_rect left extent number = join (
    codes "<rect x=\"" ∷ decimal (150 + left) ∷ codes "\" y=\"" ∷ decimal (row_of number + 14)
    ∷ codes "\" width=\"" ∷ decimal extent ∷ codes "\" height=\"24\"/>" ∷ [])

-- the bar of a span in a row
unfoldable pub span_rect : Ruler → Interval → ℕ → List ℕ
span_rect ruler span number = bar_rect (left_of ruler span) (extent_of ruler span) number

-- the same, if there is a span
abbrev pub rect_if : Ruler → Option Interval → ℕ → List ℕ
rect_if ruler None number = []
rect_if ruler (Some span) number = span_rect ruler span number

-- what stands in front of the bar of a source, and what is told of it
abbrev pub label_text : Form → Option Interval → SourceView → ℕ → List ℕ
label_text form fused source number = join (
    codes "<g class=\"source" ∷ state_word source form ∷ codes "\"><title>source " ∷ decimal source.number
    ∷ codes ": offset " ∷ piece_text (piece.Offset (source_offset source fused))
    ∷ codes ", round trip " ∷ piece_text (piece.Length source.round_trip) ∷ codes ", age " ∷ piece_text (piece.Length source.age)
    ∷ codes "</title><text x=\"8\" y=\"" ∷ decimal (row_of number + 34) ∷ codes "\">" ∷ decimal source.number ∷ state_word source form ∷ codes "</text>" ∷ [])

-- the row of a source: that of its number
unfoldable pub source_chart : Form → Ruler → Option Interval → SourceView → List ℕ
source_chart form ruler fused source =
    label_text form fused source source.number ++ (rect_if ruler source.span source.number ++ codes "</g>\n")

-- the band of the fused span behind so many rows and its own, and what stands in front of its bar
abbrev pub fused_label : ℕ → ℕ → ℕ → ℕ → List ℕ
fused_label left extent width number = join (
    codes "<rect class=\"band\" x=\"" ∷ decimal (150 + left) ∷ codes "\" y=\"0\" width=\"" ∷ decimal extent
    ∷ codes "\" height=\"" ∷ decimal (row_of number + 40) ∷ codes "\"/>\n<g class=\"fused\"><title>fused: " ∷ piece_text (piece.Length (Some width))
    ∷ codes " wide</title><text x=\"8\" y=\"" ∷ decimal (row_of number + 34) ∷ codes "\">fused</text>" ∷ [])

-- the row of the fused span
unfoldable pub fused_chart : Ruler → Interval → ℕ → List ℕ
fused_chart ruler fused number =
    fused_label (left_of ruler fused) (extent_of ruler fused) (fused_length fused) number ++ (span_rect ruler fused number ++ codes "</g>\n")

-- how far the time of a unit lies from the middle of the fused span
abbrev pub tick_text : Ruler → Interval → ℕ → ℕ → List ℕ
tick_text ruler fused unit number = join (
    codes "<text class=\"tick\" x=\"" ∷ decimal (150 + unit) ∷ codes "\" y=\"" ∷ decimal (row_of number + 90) ∷ codes "\">"
    ∷ piece_text (piece.Offset (Some (apart_of (time_at ruler unit) fused))) ∷ codes "</text>\n" ∷ [])

-- the line of the axis behind so many rows and that of the fused span, with four marks
abbrev pub axis_line : ℕ → List ℕ
axis_line number = join (
    codes "<path class=\"axis\" d=\"M150 " ∷ decimal (row_of number + 48) ∷ codes "h800m-700 0v10m200-10v10m200-10v10m200-10v10\"/>\n" ∷ [])

-- the axis behind so many rows and that of the fused span
unfoldable pub axis_text : Ruler → Interval → ℕ → List ℕ
axis_text ruler fused number =
    axis_line number ++ (tick_text ruler fused 100 number ++ (tick_text ruler fused 300 number ++ (tick_text ruler fused 500 number ++ tick_text ruler fused 700 number)))

-- what stands there in place of the fused span
abbrev pub no_fused : ℕ → List ℕ
no_fused number = join (codes "<text x=\"8\" y=\"" ∷ decimal (row_of number + 34) ∷ codes "\">no evidence file</text>\n" ∷ [])

-- the same on an axis
abbrev pub chart_on : Ruler → Form → Interval → List SourceView → List ℕ
chart_on ruler form fused sources =
    fused_chart ruler fused (length sources)
    ++ (flat_map (source_chart form ruler (Some fused)) sources ++ axis_text ruler fused (length sources))

-- the band and the row of the fused span, the rows of sources, and the axis; the band lies behind the bars
unfoldable pub known_chart : Form → Interval → List SourceView → List ℕ
known_chart form fused sources = chart_on (ruler_of (Some fused) sources) form fused sources

-- the rows of sources without bars
unfoldable pub unknown_chart : Form → List SourceView → List ℕ
unknown_chart form sources = flat_map (source_chart form (record { start = 0; step = 1 }) None) sources ++ no_fused (length sources)

-- the rows of sources, and that of the fused span if it is known
abbrev pub spans_chart : Form → Option Interval → List SourceView → List ℕ
spans_chart form None sources = unknown_chart form sources
spans_chart form (Some fused) sources = known_chart form fused sources
