use Rattle.std.specs.Prelude.{string_bytes, codes}
use Rattle.tt_top.specs.Chart.{spans_chart}
use Rattle.tt_top.specs.History.{history_text}
use Rattle.tt_top.specs.Svg.{base_of, opening_of, closing}
use Rattle.tt_top.proofs.Appending.{then_on_ok, three_on_ok}
use Rattle.tt_top.proofs.svgs.push_sized.Goals as goal

pub returns : goal.returns
returns c =
    let form = c.args.form.now in
    let view = c.args.view.now in
    then_on_ok c.push_word.result (string_bytes c.args.text.now) (string_bytes c.push_opening.new.text) _ (opening_of c.args.count) _ c.in_ok-push_opening.ensures
    (three_on_ok c.push_word.result (string_bytes c.push_opening.new.text) _ _ _ (spans_chart form view.fused view.sources.items) (history_text form view (base_of c.args.count) c.args.widths.now) closing
    (rw c.as_slice.ensures.value at c.in_ok-push_spans.ensures) (rw c.base-base.ensures.value at c.in_ok-push_widths.ensures) c.push_word.ensures)
