-- The text of an epoch, and no other, is read as it.
use Rattle.std.proofs.Common.{◌≡◌, ◌<◌, ◌^◌, ℕ, List, [], ◌∷◌, ◌++◌, length, Option, Some, None, refl, sym, ap, arith, ◌∙◌}
use Rattle.std.specs.Prelude.{MatchOption}
use Rattle.std.specs.Fmt.{decimal}
use Rattle.std.proofs.lemmas.List.{length_push}
use Rattle.tt_epoch.specs.Text.{IsEpoch, head, text_of}

pub cancel_left : (p a b : List ℕ) → p ++ a ≡ p ++ b → a ≡ b
cancel_left [] a b e = e
cancel_left (x ∷ p) a b e =
    let tails : p ++ a ≡ p ++ b = cc in
    cancel_left p a b tails

cancel_last : (a b : List ℕ) (c : ℕ) → a ++ c ∷ [] ≡ b ++ c ∷ [] → a ≡ b
cancel_last [] [] c e = refl
cancel_last [] (y ∷ b) c e = absurd (omega (arith, ap length e, length_push b c))
cancel_last (x ∷ a) [] c e = absurd (omega (arith, ap length e, length_push a c))
cancel_last (x ∷ a) (y ∷ b) c e =
    let heads : x ≡ y = cc in
    let tails : a ++ c ∷ [] ≡ b ++ c ∷ [] = cc in
    let rest : a ≡ b = cancel_last a b c tails in
    cc

-- what is left of a text when its two ends are taken off
pub read-body : (text rest digits : List ℕ) → text ≡ head ++ rest → rest ≡ digits ++ 10 ∷ [] → (r : Option ℕ) →
    MatchOption r ((n : ℕ) → n < 2 ^ 64 → digits ≡ decimal n → ⊥) (λ n. (n < 2 ^ 64) × (digits ≡ decimal n)) →
    MatchOption r ((epoch : ℕ) → IsEpoch epoch → text ≡ text_of epoch → ⊥) (λ epoch. text ≡ text_of epoch)
read-body text rest digits front back None none = λ epoch fits is.
    none epoch fits (cancel_last digits (decimal epoch) 10 (sym back ∙ cancel_left head rest (decimal epoch ++ 10 ∷ []) (sym front ∙ is)))
read-body text rest digits front back (Some n) is = front ∙ ap (λ (t : List ℕ). head ++ t) (back ∙ ap (λ (d : List ℕ). d ++ 10 ∷ []) is.1)
