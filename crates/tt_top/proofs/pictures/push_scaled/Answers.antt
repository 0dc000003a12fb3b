use Rattle.std.proofs.Common.{◌≡◌, ◌++◌, ◌∙◌, ap, subst}
use Rattle.std.specs.Prelude.{OnOk, string_bytes, Some}
use Rattle.std.specs.List.{flat_map}
use Rattle.tt_top.specs.declared.bars.Scale.{Scale}
use Rattle.tt_top.specs.Bar.{reach_of, scale_over}
use Rattle.tt_top.specs.Row.{row_text, fused_text}
use Rattle.tt_top.specs.Head.{scale_text}
use Rattle.tt_top.specs.Picture.{lines_text, scaled_text}
use Rattle.tt_top.proofs.Appending.{three_on_ok}
use Rattle.tt_top.proofs.pictures.push_scaled.Goals as goal

pub returns : goal.returns
unfolding scaled_text
returns c =
    let form = c.args.form.now in
    let fused = c.args.fused.now in
    let sources = c.args.sources.now in
    let scale = c.over-scale.result in
    let Written : Scale → Type 0 = λ s. OnOk c.push_fused.result (string_bytes c.push_fused.new.text ≡ string_bytes c.args.text.now ++ lines_text form s fused sources) in
    subst Written (c.over-scale.ensures ∙ ap (λ columns. scale_over (reach_of fused sources) columns) c.bar.ensures.value)
    (three_on_ok c.push_fused.result (string_bytes c.args.text.now) _ _ _ (scale_text form scale) (flat_map (row_text form scale (Some fused)) sources) (fused_text scale fused)
    c.in_ok-push_scale.ensures c.in_ok-push_rows.ensures c.push_fused.ensures)
