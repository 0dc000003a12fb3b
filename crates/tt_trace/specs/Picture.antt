-- The one picture of a run, and its text.
use Rattle.std.specs.Prelude.{ℕ, List, [], ◌∷◌, ◌++◌, map, length, codes}
use Rattle.std.specs.List.{flat_map}
use Rattle.tt_daemon.specs.Config.{Configuration}
use Rattle.tt_world.specs.declared.events.Event.{Event}
use Rattle.tt_world.specs.Trace.{RunTrace}
use Rattle.tt_trace.specs.declared.marks.Mark.{Mark}
use Rattle.tt_trace.specs.declared.sheets.Sheet.{Sheet}
use Rattle.tt_trace.specs.Marks.{marks_of}
use Rattle.tt_trace.specs.Sheet.{sheet_of}
use Rattle.tt_trace.specs.Tree.{Document, branch_text, closing_then, document_text}
use Rattle.tt_trace.specs.Drawing.{group_of}
use Rattle.tt_trace.specs.Framing.{size_of, opening_of, style_group, legend_group, lanes_of, ticks_of}

-- the picture of these marks on a sheet: the style, the legend, the lanes and the ticks, and then each mark
abbrev pub document_of : List Configuration → Sheet → List Mark → Document
document_of configs sheet marks = record {
  name = codes "svg";
  attributes = size_of (length configs);
  branches = style_group ∷ legend_group ∷ (lanes_of configs sheet ++ (ticks_of (length configs) sheet ++ map (group_of sheet) marks));
}

-- the picture of a run
abbrev pub picture_of : List Configuration → List Event → RunTrace → Document
picture_of configs events trace =
    let marks = marks_of events trace.replies in
    document_of configs (sheet_of marks) marks

-- the text of the picture of a run
abbrev pub picture_text_of : List Configuration → List Event → RunTrace → List ℕ
picture_text_of configs events trace = document_text (picture_of configs events trace)

-- the text of a picture, part by part
abbrev pub sheet_text : List Configuration → Sheet → List Mark → List ℕ
sheet_text configs sheet marks =
    opening_of (length configs)
    ++ ((branch_text style_group ++ branch_text legend_group)
    ++ (flat_map branch_text (lanes_of configs sheet)
    ++ (flat_map branch_text (ticks_of (length configs) sheet)
    ++ (flat_map (λ mark. branch_text (group_of sheet mark)) marks
    ++ closing_then (codes "svg") []))))
