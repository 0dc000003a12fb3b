use Rattle.std.specs.Prelude.{string_bytes, codes}
use Rattle.tt_top.specs.Chart.{label_text, rect_if, source_chart}
use Rattle.tt_top.proofs.Appending.{three_on_ok}
use Rattle.tt_top.proofs.charts.push_source.Goals as goal

pub returns : goal.returns
unfolding source_chart
returns c =
    let source = c.args.source.now in
    three_on_ok c.push_word.result (string_bytes c.args.text.now) _ _ _ (label_text c.args.form.now c.args.fused.now source source.number) (rect_if c.args.ruler source.span source.number) (codes "</g>\n")
    c.in_ok-push_label.ensures c.in_ok-push_rect_if.ensures c.push_word.ensures
