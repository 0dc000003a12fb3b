use Rattle.std.proofs.Common.{◌≡◌, ◌++◌, ◌∙◌, ap, subst, ℕ, length, List}
use Rattle.std.specs.Prelude.{OnOk, string_bytes}
use Rattle.tt_top.specs.declared.views.SourceView.{SourceView}
use Rattle.tt_top.specs.Svg.{svg_of, svg_text}
use Rattle.tt_top.proofs.svgs.push_svg.Goals as goal

pub returns : goal.returns
unfolding svg_text
returns c =
    let Written : ℕ → Type 0 = λ n. OnOk c.push_sized.result (string_bytes c.push_sized.new.text ≡ string_bytes c.args.text.now ++ svg_of c.args.form.now c.args.view.now c.args.widths.now n) in
    record { written = subst Written (c.count-count.ensures.value ∙ ap (λ (sources : List SourceView). length sources) c.as_slice.ensures.value) c.push_sized.ensures }
