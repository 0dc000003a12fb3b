use Rattle.std.specs.Prelude.{string_bytes, None}
use Rattle.std.specs.List.{flat_map}
use Rattle.tt_top.specs.Row.{row_text}
use Rattle.tt_top.specs.Head.{no_scale_text}
use Rattle.tt_top.specs.Picture.{plain_scale, unscaled_text}
use Rattle.tt_top.proofs.Appending.{then_on_ok}
use Rattle.tt_top.proofs.pictures.push_unscaled.Goals as goal

pub returns : goal.returns
unfolding unscaled_text
returns c =
    let form = c.args.form.now in
    then_on_ok c.push_rows.result (string_bytes c.args.text.now) _ _ (no_scale_text form) (flat_map (row_text form (plain_scale form) None) c.args.sources.now)
    c.in_ok-push_no_scale.ensures (rw c.bar.ensures.value at c.push_rows.ensures)
