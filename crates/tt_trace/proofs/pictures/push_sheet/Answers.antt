use Rattle.std.specs.Prelude.{string_bytes, ◌++◌, codes, length, []}
use Rattle.std.specs.List.{flat_map}
use Rattle.tt_trace.specs.Tree.{branch_text, closing_then}
use Rattle.tt_trace.specs.Drawing.{group_of}
use Rattle.tt_trace.specs.Framing.{opening_of, style_group, legend_group, lanes_of, ticks_of}
use Rattle.tt_trace.proofs.Appending.{six_pieces}
use Rattle.tt_trace.proofs.pictures.push_sheet.Goals as goal

pub returns : goal.returns
returns c =
    let configs = c.args.configs.now in
    let sheet = c.args.sheet.now in
    six_pieces c.push_words.result (string_bytes c.args.text.now) _ _ _ _ _ _ (opening_of (length configs)) (branch_text style_group ++ branch_text legend_group)
    (flat_map branch_text (lanes_of configs sheet)) (flat_map branch_text (ticks_of (length configs) sheet)) (flat_map (λ mark. branch_text (group_of sheet mark)) c.args.marks.now)
    (closing_then (codes "svg") [])
    c.in_ok-push_head.ensures c.in_ok-push_legend.ensures c.in_ok-push_lanes.ensures c.in_ok-push_ticks.ensures c.in_ok-push_all.ensures c.push_words.ensures
