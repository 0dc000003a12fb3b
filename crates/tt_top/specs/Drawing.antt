-- The picture of a view, as a part of a page of HTML.
use Rattle.std.specs.Prelude.{ℕ, ◌==◌, if◌then◌else◌, Option, List, [], ◌∷◌, ◌++◌, codes, encode_utf8}
use Rattle.std.specs.Fmt.{decimal}
use Rattle.std.specs.List.{flat_map}
use Rattle.tt_span.specs.Interval.{Interval}
use Rattle.tt_top.specs.declared.forms.Form.{Form}
use Rattle.tt_top.specs.declared.pieces.Piece.TheVariants as piece
use Rattle.tt_top.specs.declared.rises.Past.{Past}
use Rattle.tt_top.specs.declared.views.SourceView.{SourceView}
use Rattle.tt_top.specs.declared.views.View.{View}
use Rattle.tt_top.specs.Head.{head_text}
use Rattle.tt_top.specs.Piece.{join, piece_text}
use Rattle.tt_top.specs.Row.{source_offset, state_word, ends_word}
use Rattle.tt_top.specs.Sign.{signs_text}
use Rattle.tt_top.specs.Svg.{svg_text}

-- what HTML has for a byte
abbrev pub escaped : ℕ → List ℕ
escaped byte = if byte == 60 then codes "&lt;" else if byte == 62 then codes "&gt;" else if byte == 38 then codes "&amp;" else encode_utf8 byte

-- the line of a machine's life, as a title
unfoldable pub title_text : View → List ℕ
title_text view = codes "<h1>" ++ (head_text view ++ codes "</h1>\n")

-- the number of a source, and its offset
abbrev pub first_cells : Form → Option Interval → SourceView → List ℕ
first_cells form fused source = join (
    codes "<tr class=\"source" ∷ state_word source form ∷ codes "\"><td>" ∷ decimal source.number
    ∷ codes "</td><td>" ∷ piece_text (piece.Offset (source_offset source fused)) ∷ codes "</td><td>" ∷ [])

-- its round trip, its age, the ends that it holds, and what is wrong with it
abbrev pub last_cells : Form → SourceView → List ℕ
last_cells form source = join (
    piece_text (piece.Length source.round_trip) ∷ codes "</td><td>" ∷ piece_text (piece.Length source.age)
    ∷ codes "</td><td>" ∷ ends_word source ∷ state_word source form ∷ codes "</td></tr>\n" ∷ [])

-- the line of a source in a table
unfoldable pub cells_text : Form → Option Interval → SourceView → List ℕ
cells_text form fused source = first_cells form fused source ++ last_cells form source

-- the table of sources
unfoldable pub table_text : Form → Option Interval → List SourceView → List ℕ
table_text form fused sources =
    codes "<table>\n<tr><th>source</th><th>offset</th><th>round trip</th><th>age</th><th>ends</th></tr>\n"
    ++ (flat_map (cells_text form fused) sources ++ codes "</table>\n")

-- a text as a part of a page
unfoldable pub framed_text : List ℕ → List ℕ
framed_text bytes = codes "<pre class=\"signs\">" ++ (flat_map escaped bytes ++ codes "</pre>\n")

-- what an operator may have to act on
abbrev pub noted_text : Form → Past → View → List ℕ
noted_text form past view = framed_text (signs_text form past view)

-- all of it
unfoldable pub drawing_text : Form → View → List ℕ → Past → List ℕ
drawing_text form view widths past = title_text view ++ (noted_text form past view ++ (svg_text form view widths ++ table_text form view.fused view.sources.items))
