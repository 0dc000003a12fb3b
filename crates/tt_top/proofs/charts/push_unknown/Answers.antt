use Rattle.std.proofs.Common.{length}
use Rattle.std.specs.Prelude.{string_bytes, None}
use Rattle.std.specs.List.{flat_map}
use Rattle.tt_top.specs.Chart.{no_fused, source_chart, unknown_chart}
use Rattle.tt_top.proofs.Appending.{then_on_ok}
use Rattle.tt_top.proofs.charts.push_unknown.Goals as goal

pub returns : goal.returns
unfolding unknown_chart
returns c =
    let sources = c.args.sources.now in
    then_on_ok c.push_no_fused.result (string_bytes c.args.text.now) _ _ (flat_map (source_chart c.args.form.now (record { start = 0; step = 1 }) None) sources) (no_fused (length sources))
    c.in_ok-push_sources.ensures (rw c.count-number.ensures.value at c.push_no_fused.ensures)
