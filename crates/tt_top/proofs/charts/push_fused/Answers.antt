use Rattle.std.specs.Prelude.{string_bytes, codes}
use Rattle.tt_top.specs.Chart.{fused_label, fused_chart, span_rect}
use Rattle.tt_top.specs.Row.{fused_length}
use Rattle.tt_top.specs.Ruler.{left_of, extent_of}
use Rattle.tt_top.proofs.Appending.{three_on_ok}
use Rattle.tt_top.proofs.charts.push_fused.Goals as goal

pub returns : goal.returns
unfolding fused_chart
returns c =
    let fused = c.args.fused.now in
    let ruler = c.args.ruler in
    three_on_ok c.push_word.result (string_bytes c.args.text.now) _ _ _ (fused_label (left_of ruler fused) (extent_of ruler fused) (fused_length fused) c.args.number) (span_rect ruler fused c.args.number) (codes "</g>\n")
    (rw (c.left-left.ensures.value, c.extent-extent.ensures.value, c.hi.ensures.value, c.lo.ensures.value) at c.in_ok-push_fused_label.ensures) c.in_ok-push_rect.ensures c.push_word.ensures
