use Rattle.std.specs.Prelude.{string_bytes}
use Rattle.tt_top.specs.History.{base_text, greatest_of, limit_text, steps_path, top_line}
use Rattle.tt_top.proofs.Appending.{then_on_ok, three_on_ok}
use Rattle.tt_top.proofs.histories.push_widths.Goals as goal

pub returns : goal.returns
returns c =
    let base = c.args.base in
    let form = c.args.form.now in
    let widths = c.args.widths.now in
    let one = string_bytes c.push_path.new.text in
    then_on_ok c.push_top.result (string_bytes c.args.text.now) one _ (steps_path base widths) _ c.in_ok-push_path.ensures
    (three_on_ok c.push_top.result one _ _ _ (base_text form c.args.view.now base) (limit_text form base widths) (top_line base (greatest_of widths))
    c.in_ok-push_base.ensures c.in_ok-push_limit.ensures (rw c.greatest.ensures.value at c.push_top.ensures))
