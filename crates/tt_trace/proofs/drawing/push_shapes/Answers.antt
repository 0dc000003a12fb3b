use Rattle.std.specs.Prelude.{string_bytes, []}
use Rattle.tt_trace.specs.Tree.{leaves_then}
use Rattle.tt_trace.specs.Drawing.{stamp_labels}
use Rattle.tt_trace.proofs.Appending.{four_pieces}
use Rattle.tt_trace.proofs.drawing.push_shapes.Goals as goal

pub returns : goal.returns
returns c =
    four_pieces c.push_stamp.result (string_bytes c.args.text.now) _ _ _ _ _ _ _ (leaves_then (stamp_labels c.args.bar.from c.args.bar.top c.args.bar.width c.args.bar.stamp) [])
    c.in_ok-push_rectangle.ensures c.in_ok-push_line.ensures c.in_ok-push_dot.ensures c.push_stamp.ensures
