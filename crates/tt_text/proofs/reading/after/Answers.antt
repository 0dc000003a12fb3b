use Rattle.std.proofs.Common.{◌≡◌, ◌++◌, ◌-◌, ℕ, List, length, take, drop, subst, ◌∙◌}
use Rattle.std.proofs.lemmas.Bool.{both_ways}
use Rattle.std.proofs.lemmas.Bool.Decides.{Decides-eqb}
use Rattle.std.proofs.lemmas.List.{take_rest}
use Rattle.std.proofs.lemmas.Slice.Eq.{starts_is}
use Rattle.tt_text.proofs.Fronts.{after-word}
use Rattle.tt_text.proofs.reading.after.Goals as goal

pub returns-then-starts_with : goal.returns-then-starts_with
returns-then-starts_with c =
    let text = c.args.text.now in
    let word = c.args.word.now in
    let at = c.args.at in
    let shown : List ℕ = take (length text - at) (drop at text) in
    let both = starts_is Decides-eqb shown word c.starts_with.result c.starts_with.ensures.value in
    record { found = after-word text word at c.requires (subst (λ (s : List ℕ). s ≡ word ++ drop (length word) s) (take_rest text at) (both.0 c.if-starts_with.true)) }

pub returns-else-starts_with : goal.returns-else-starts_with
returns-else-starts_with c =
    let text = c.args.text.now in
    let at = c.args.at in
    let shown : List ℕ = take (length text - at) (drop at text) in
    let both = starts_is Decides-eqb shown c.args.word.now c.starts_with.result c.starts_with.ensures.value in
    record { found = λ rest is. both_ways c.starts_with.result c.if-starts_with.false (both.1 rest (take_rest text at ∙ is)) }
