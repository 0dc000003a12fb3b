use Rattle.std.specs.Prelude.{string_bytes}
use Rattle.tt_trace.specs.Sheet.{middle_of}
use Rattle.tt_trace.specs.Framing.{lane_title, lane_shapes}
use Rattle.tt_trace.proofs.Appending.{titled_pieces}
use Rattle.tt_trace.proofs.framing.push_lane.Goals as goal

pub returns : goal.returns
returns c =
    titled_pieces c.push_closing.result (string_bytes c.args.text.now) _ _ _ _ _ _ (lane_title c.args.machine c.args.config.now) (lane_shapes c.args.machine (middle_of c.args.machine) c.args.sheet.now.reach)
    c.in_ok-push_opening.ensures c.in_ok-push_lane_title.ensures (rw c.middle-middle.ensures.value at c.in_ok-push_lane_shapes.ensures) c.push_closing.ensures
