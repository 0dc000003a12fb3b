use Rattle.std.specs.Prelude.{string_bytes}
use Rattle.tt_trace.specs.Framing.{tick_shapes}
use Rattle.tt_trace.proofs.Appending.{group_pieces}
use Rattle.tt_trace.proofs.framing.push_tick.Goals as goal

pub returns : goal.returns
returns c =
    group_pieces c.push_closing.result (string_bytes c.args.text.now) _ _ _ _ _ (tick_shapes c.args.machines c.args.sheet.now c.args.number)
    c.in_ok-push_opening.ensures c.in_ok-push_tick_shapes.ensures c.push_closing.ensures
