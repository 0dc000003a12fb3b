use Rattle.std.specs.Prelude.{string_bytes}
use Rattle.tt_top.specs.Chart.{axis_line, axis_text, tick_text}
use Rattle.tt_top.proofs.Appending.{then_on_ok, three_on_ok}
use Rattle.tt_top.proofs.charts.push_axis.Goals as goal

pub returns : goal.returns
unfolding axis_text
returns c =
    let tick = tick_text c.args.ruler c.args.fused.now in
    let n = c.args.number in
    then_on_ok c.push_tick-4.result (string_bytes c.args.text.now) (string_bytes c.push_line.new.text) _ (axis_line n) _ c.in_ok-push_line.ensures
    (then_on_ok c.push_tick-4.result (string_bytes c.push_line.new.text) (string_bytes c.push_tick.new.text) _ (tick 100 n) _ c.in_ok-push_tick.ensures
    (three_on_ok c.push_tick-4.result (string_bytes c.push_tick.new.text) _ _ _ (tick 300 n) (tick 500 n) (tick 700 n)
    c.in_ok-push_tick-2.ensures c.in_ok-push_tick-3.ensures c.push_tick-4.ensures))
