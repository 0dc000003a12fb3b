-- Texts that grow at their end.
use Rattle.std.proofs.Common.{◌≡◌, ℕ, List, ◌++◌, Result, Ok, Err, ◌∙◌, ap, append_assoc}
use Rattle.std.specs.Prelude.{OnOk}

-- three pieces one behind the other, the last of which may fail
pub OnOk-three : {T E : Type 0} (r : Result T E) (old one two new a b c : List ℕ) →
    one ≡ old ++ a → two ≡ one ++ b → OnOk r (new ≡ two ++ c) → OnOk r (new ≡ old ++ (a ++ (b ++ c)))
OnOk-three (Ok x) old one two new a b c first second last =
    last
    ∙ ap (λ (t : List ℕ). t ++ c) (second ∙ ap (λ (t : List ℕ). t ++ b) first)
    ∙ append_assoc (old ++ a) b c
    ∙ append_assoc old a (b ++ c)
OnOk-three (Err e) old one two new a b c first second last = tt
