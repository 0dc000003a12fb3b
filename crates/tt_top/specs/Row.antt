-- The lines of the sources, and that of the fused span.
use Rattle.std.specs.Prelude.{ℕ, ◌+◌, ◌-◌, ◌/◌, nat_lt, Bool, true, false, if◌then◌else◌, Option, Some, None, List, [], ◌∷◌, codes}
use Rattle.std.specs.Fmt.{decimal}
use Rattle.tt_span.specs.Interval.{Interval}
use Rattle.tt_top.specs.declared.bars.Mark.{Mark}
use Rattle.tt_top.specs.declared.bars.Mark.TheVariants.{Source, Suspect, Fused, Unknown, Absent}
use Rattle.tt_top.specs.declared.bars.Scale.{Scale}
use Rattle.tt_top.specs.declared.forms.Form.{Form}
use Rattle.tt_top.specs.declared.pieces.Offset.{Offset}
use Rattle.tt_top.specs.declared.pieces.Piece.TheVariants as piece
use Rattle.tt_top.specs.declared.views.SourceView.{SourceView}
use Rattle.tt_top.specs.Form.{red_word, plain_word}
use Rattle.tt_top.specs.Bar.{bar_text}
use Rattle.tt_top.specs.Piece.{join, piece_text}

-- the middle of a span
abbrev pub middle_of : Interval → ℕ
middle_of span = (span.lo + span.hi) / 2

-- how far a time lies from the middle of the fused span
abbrev pub apart_of : ℕ → Interval → Offset
apart_of here fused =
    if nat_lt here (middle_of fused) then record { below = true; size = middle_of fused - here } else record { below = false; size = here - middle_of fused }

-- how far the middle of the first span lies from that of the second
abbrev pub offset_between : Interval → Interval → Offset
offset_between span fused = apart_of (middle_of span) fused

-- the offset of a span from the fused one, if both are known
abbrev pub offset_if : Option Interval → Option Interval → Option Offset
offset_if (Some span) (Some fused) = Some (offset_between span fused)
offset_if _ _ = None

-- the offset of a source
abbrev pub source_offset : SourceView → Option Interval → Option Offset
source_offset source fused = offset_if source.span fused

-- the mark of a suspect or another source
abbrev pub mark_if : Bool → Option Interval → Option Interval → Mark
mark_if suspect span None = Absent
mark_if suspect None (Some fused) = Unknown
mark_if suspect (Some span) (Some fused) = if suspect then Suspect else Source

-- what the bar of a source is drawn with
abbrev pub bar_mark : SourceView → Option Interval → Mark
bar_mark source fused = mark_if source.suspect source.span fused

-- which ends of the fused span a source holds
abbrev pub ends_word : SourceView → List ℕ
ends_word source =
    if source.holds_lower then (if source.holds_upper then codes "[]" else codes "[ ") else if source.holds_upper then codes " ]" else codes "  "

-- what is wrong with a source of this age
abbrev pub state_at : Option ℕ → Bool → ℕ → List ℕ
state_at None suspect silent_after = codes " never"
state_at (Some age) suspect silent_after = if suspect then codes " suspect" else if nat_lt silent_after age then codes " silent" else []

-- what is wrong with a source
abbrev pub state_word : SourceView → Form → List ℕ
state_word source form = state_at source.age source.suspect form.silent_after

-- the line of a source
abbrev pub row_text : Form → Scale → Option Interval → SourceView → List ℕ
row_text form scale fused source = join (
    red_word form source.suspect
    ∷ (if nat_lt source.number 10 then codes "    " else codes "   ")
    ∷ decimal source.number
    ∷ codes " "
    ∷ bar_text (record { scale = scale; mark = bar_mark source fused; span = source.span })
    ∷ codes " "
    ∷ piece_text (piece.Offset (source_offset source fused))
    ∷ codes " "
    ∷ piece_text (piece.Length source.round_trip)
    ∷ codes " "
    ∷ piece_text (piece.Length source.age)
    ∷ codes " "
    ∷ ends_word source
    ∷ state_word source form
    ∷ plain_word form source.suspect
    ∷ codes "\n"
    ∷ [])

-- the width of a span
abbrev pub fused_length : Interval → ℕ
fused_length fused = fused.hi - fused.lo

-- the line of the fused span
abbrev pub fused_text : Scale → Interval → List ℕ
fused_text scale fused = join (
    codes "fused "
    ∷ bar_text (record { scale = scale; mark = Fused; span = Some fused })
    ∷ codes "  "
    ∷ piece_text (piece.Length (Some (fused_length fused)))
    ∷ codes " wide\n"
    ∷ [])
