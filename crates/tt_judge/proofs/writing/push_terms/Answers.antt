use Rattle.std.proofs.Common.{◌≡◌, ◌++◌, ℕ, List, Option, sym, ap, ◌∙◌, append_assoc}
use Rattle.std.specs.Prelude.{string_bytes, codes}
use Rattle.std.proofs.lemmas.Result.{on_ok_weaker}
use Rattle.tt_judge.specs.declared.terms.TermJudgement.{TermJudgement}
use Rattle.tt_judge.specs.Text.{count_text, terms_text}
use Rattle.tt_judge.proofs.writing.push_terms.Goals as goal

-- two parts behind a text, one after the other
both-parts : (text middle end first second : List ℕ) → middle ≡ text ++ first → end ≡ middle ++ second → end ≡ text ++ (first ++ second)
both-parts text middle end first second one two = two ∙ (ap (λ (t : List ℕ). t ++ second) one ∙ append_assoc text first second)

pub returns-in_ok-push_count-in-Some : goal.returns-in_ok-push_count-in-Some
returns-in_ok-push_count-in-Some c =
    let judgement : TermJudgement = c.in-Some.judgement in
    let terms : List ℕ = count_text (codes "term_violations") judgement.terms.count (codes "first_term") judgement.terms.first in
    let stamps : List ℕ = count_text (codes "equal_stamps") judgement.stamps.count (codes "first_equal") judgement.stamps.first in
    let text : List ℕ = string_bytes c.args.text.now in
    let middle : List ℕ = string_bytes c.push_count.new.text in
    let one : middle ≡ text ++ terms = c.in_ok-push_count-in-Some.ensures in
    on_ok_weaker c.push_count-in-Some.result
    (λ two. both-parts text middle (string_bytes c.push_count-in-Some.new.text) terms stamps one two ∙ ap (λ (t : Option TermJudgement). text ++ terms_text t) (sym c.in-Some.is))
    c.push_count-in-Some.ensures
