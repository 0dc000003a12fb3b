use Rattle.std.specs.Prelude.{string_bytes, codes}
use Rattle.std.specs.List.{flat_map}
use Rattle.tt_top.specs.Drawing.{cells_text, table_text}
use Rattle.tt_top.proofs.Appending.{three_on_ok}
use Rattle.tt_top.proofs.drawings.push_table.Goals as goal

pub returns : goal.returns
unfolding table_text
returns c =
    three_on_ok c.push_word-2.result (string_bytes c.args.text.now) _ _ _ (codes "<table>\n<tr><th>source</th><th>offset</th><th>round trip</th><th>age</th><th>ends</th></tr>\n")
    (flat_map (cells_text c.args.form.now c.args.fused.now) c.args.sources.now) (codes "</table>\n") c.in_ok-push_word.ensures c.in_ok-push_rows.ensures c.push_word-2.ensures
