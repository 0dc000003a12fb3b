use Rattle.std.proofs.Common.{arith, ◌≡◌, ◌+◌, ℕ, List, ◌∙◌, ap}
use Rattle.std.specs.Prelude.{suc, Option}
use Rattle.tt_top.specs.Field.{again, nth_behind}
use Rattle.tt_top.proofs.fields.nth.Goals as goal

pub loop-line-preserved : goal.loop-line-preserved
loop-line-preserved c =
    let words = c.args.words.now in
    let text = c.args.text.now in
    let n = c.loop-line._line in
    let more : suc n ≡ n + 1 = omega arith in
    c.next-rest.ensures ∙ ap (λ (found : Option (List ℕ)). again words found) c.loop-line.invariant ∙ ap (λ (m : ℕ). nth_behind words m text) more

pub returns : goal.returns
returns c =
    let all : c.loop-line._line ≡ c.args.number = omega arith in
    c.loop-line.invariant ∙ ap (λ (m : ℕ). nth_behind c.args.words.now m c.args.text.now) all
