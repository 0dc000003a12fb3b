use Rattle.std.proofs.Common.{rules, arith, ◌≡◌, ◌++◌, ℕ, ◌∙◌, ap}
use Rattle.std.specs.Prelude.{string_bytes, codes}
use Rattle.std.specs.List.{flat_map, range_with_len}
use Rattle.tt_top.specs.Piece.{blanks_text}
use Rattle.tt_top.proofs.Appending.{text_more}
use Rattle.tt_top.proofs.pieces.push_blanks.Goals as goal

pub loop-column-preserved : goal.loop-column-preserved
loop-column-preserved c =
    let pushed : string_bytes c.push_str.new.self ≡ string_bytes c.loop-column.text ++ codes " " = search rules in
    text_more (λ _. codes " ") c.loop-column._column (string_bytes c.args.text.now) _ _ c.loop-column.invariant pushed

pub returns : goal.returns
unfolding blanks_text
returns c =
    let all : c.loop-column._column ≡ c.args.count = omega arith in
    c.loop-column.invariant ∙ ap (λ (n : ℕ). string_bytes c.args.text.now ++ flat_map (λ _. codes " ") (range_with_len 0 n)) all
