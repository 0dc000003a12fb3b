use Rattle.std.specs.Prelude.{string_bytes}
use Rattle.tt_top.specs.Drawing.{title_text, noted_text, table_text, drawing_text}
use Rattle.tt_top.specs.Svg.{svg_text}
use Rattle.tt_top.proofs.Appending.{then_on_ok, three_on_ok}
use Rattle.tt_top.proofs.drawings.push_drawing.Goals as goal

pub returns : goal.returns
unfolding drawing_text
returns c =
    let form = c.args.form.now in
    let view = c.args.view.now in
    let past = c.args.past.now in
    record {
      written = then_on_ok c.push_table.result (string_bytes c.args.text.now) (string_bytes c.push_title.new.text) _ (title_text view) _ c.in_ok-push_title.ensures
          (three_on_ok c.push_table.result (string_bytes c.push_title.new.text) _ _ _ (noted_text form past view) (svg_text form view c.args.widths.now) (table_text form view.fused view.sources.items)
          c.in_ok-push_noted.ensures c.in_ok-push_svg.ensures.written (rw c.as_slice.ensures.value at c.push_table.ensures));
    }
