use Rattle.std.specs.Prelude.{string_bytes}
use Rattle.tt_top.specs.Drawing.{cells_text, first_cells, last_cells}
use Rattle.tt_top.proofs.Appending.{then_on_ok}
use Rattle.tt_top.proofs.drawings.push_cells.Goals as goal

pub returns : goal.returns
unfolding cells_text
returns c =
    let form = c.args.form.now in
    let source = c.args.source.now in
    then_on_ok c.push_last_cells.result (string_bytes c.args.text.now) _ _ (first_cells form c.args.fused.now source) (last_cells form source) c.in_ok-push_first_cells.ensures c.push_last_cells.ensures
