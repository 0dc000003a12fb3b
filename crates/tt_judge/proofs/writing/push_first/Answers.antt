use Rattle.std.proofs.Common.{◌≡◌, ◌++◌, ◌+◌, ◌∷◌, [], ℕ, List, Option, Some, subst, sym, ap, ◌∙◌, append_assoc}
use Rattle.std.specs.Prelude.{OnOk, string_bytes}
use Rattle.std.specs.Fmt.{decimal}
use Rattle.std.proofs.lemmas.List.{append-nil}
use Rattle.tt_judge.specs.declared.judging.Violation.{Violation}
use Rattle.tt_judge.specs.Text.{first_text}
use Rattle.tt_judge.proofs.writing.push_first.Goals as goal

-- a line of two numbers, one after another
two-numbers : (a b : List ℕ) → a ++ 32 ∷ (b ++ 10 ∷ []) ≡ (a ++ 32 ∷ (b ++ [])) ++ 10 ∷ []
two-numbers a b =
    ap (λ (r : List ℕ). a ++ 32 ∷ (r ++ 10 ∷ [])) (sym (append-nil b)) ∙ sym (append_assoc a (32 ∷ (b ++ [])) (10 ∷ []))

pub returns-in-None : goal.returns-in-None
returns-in-None c =
    sym (ap (λ (f : Option Violation). string_bytes c.args.text.now ++ first_text c.args.word.now f) c.in-None.is ∙ append-nil (string_bytes c.args.text.now))

pub returns-in-Some : goal.returns-in-Some
returns-in-Some c =
    let written : List ℕ → Type 0 = λ bytes. OnOk c.write.result (string_bytes c.write.new.self ≡ string_bytes c.args.text.now ++ bytes) in
    let v : Violation = c.in-Some.violation in
    let word : List ℕ = c.args.word.now in
    let same : (word ++ 32 ∷ (decimal (v.later + 1) ++ 32 ∷ (decimal (v.earlier + 1) ++ 10 ∷ []))) ≡ first_text word (Some v) =
    ap (λ (r : List ℕ). word ++ 32 ∷ r) (two-numbers (decimal (v.later + 1)) (decimal (v.earlier + 1))) in
    subst written (same ∙ ap (first_text word) (sym c.in-Some.is)) c.write.ensures.bytes
