use Rattle.std.proofs.Common.{rules, arith, ◌≡◌, ◌++◌, ℕ, ◌∙◌, ap}
use Rattle.std.specs.Prelude.{string_bytes}
use Rattle.std.specs.List.{flat_map, range_with_len}
use Rattle.tt_top.specs.Bar.{cell_text, bar_text}
use Rattle.tt_top.proofs.Appending.{text_more}
use Rattle.tt_top.proofs.bars.Bar.push.Goals as goal

pub loop-column-preserved : goal.loop-column-preserved
loop-column-preserved c =
    let cell = cell_text c.args.self.now c.loop-column.column in
    let pushed : string_bytes c.push_str.new.self ≡ string_bytes c.loop-column.text ++ c.cell.result.now = search rules in
    let told : string_bytes c.push_str.new.self ≡ string_bytes c.loop-column.text ++ cell = pushed ∙ ap (λ t. string_bytes c.loop-column.text ++ t) c.cell.ensures in
    text_more (cell_text c.args.self.now) c.loop-column.column (string_bytes c.args.text.now) _ _ c.loop-column.invariant told

pub returns : goal.returns
unfolding bar_text
returns c =
    let all : c.loop-column.column ≡ c.args.self.now.scale.columns = omega arith in
    c.loop-column.invariant ∙ ap (λ (n : ℕ). string_bytes c.args.text.now ++ flat_map (cell_text c.args.self.now) (range_with_len 0 n)) all
