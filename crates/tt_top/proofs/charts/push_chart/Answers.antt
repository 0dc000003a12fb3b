use Rattle.std.proofs.Common.{length}
use Rattle.std.specs.Prelude.{string_bytes, Some}
use Rattle.std.specs.List.{flat_map}
use Rattle.tt_top.specs.Chart.{axis_text, fused_chart, source_chart}
use Rattle.tt_top.proofs.Appending.{three_on_ok}
use Rattle.tt_top.proofs.charts.push_chart.Goals as goal

pub returns : goal.returns
returns c =
    let ruler = c.args.ruler in
    let fused = c.args.fused.now in
    let sources = c.args.sources.now in
    three_on_ok c.push_axis.result (string_bytes c.args.text.now) _ _ _ (fused_chart ruler fused (length sources)) (flat_map (source_chart c.args.form.now ruler (Some fused)) sources) (axis_text ruler fused (length sources))
    (rw c.count-number.ensures.value at c.in_ok-push_fused.ensures) c.in_ok-push_sources.ensures (rw c.count-number.ensures.value at c.push_axis.ensures)
