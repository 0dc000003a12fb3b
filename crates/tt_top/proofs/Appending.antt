-- Texts that grow at their end.
use Rattle.std.proofs.Common.{◌≡◌, ℕ, ◌+◌, List, ◌++◌, map, Result, Ok, Err, ◌∙◌, ap, sym, append_assoc, append-nil, arith, [], ◌∷◌}
use Rattle.std.specs.Prelude.{OnOk}
use Rattle.std.specs.List.{flat_map, range_with_len}
use Rattle.std.proofs.lemmas.Grind.{flat_map-append}
use Rattle.std.proofs.lemmas.List.Folds.{flat_map-map}
use Rattle.std.proofs.lemmas.List.FromFn.{map-range_with_len_more}

-- two pieces one behind the other
pub then : (old one new a b : List ℕ) → one ≡ old ++ a → new ≡ one ++ b → new ≡ old ++ (a ++ b)
then old one new a b first last = last ∙ ap (λ (t : List ℕ). t ++ b) first ∙ append_assoc old a b

-- the same, where the last one may fail
pub then_on_ok : {T E : Type 0} (r : Result T E) (old one new a b : List ℕ) → one ≡ old ++ a → OnOk r (new ≡ one ++ b) → OnOk r (new ≡ old ++ (a ++ b))
then_on_ok (Ok x) old one new a b first last = then old one new a b first last
then_on_ok (Err e) old one new a b first last = tt

-- one more number of a range
pub one_more : {X : Type 0} (f : ℕ → List X) (n : ℕ) → flat_map f (range_with_len 0 (n + 1)) ≡ flat_map f (range_with_len 0 n) ++ f n
one_more f n =
    let same = λ (i : ℕ). i in
    sym (flat_map-map f same (range_with_len 0 (n + 1)))
    ∙ ap (λ ns. flat_map f ns) (map-range_with_len_more same 0 n n (omega arith))
    ∙ flat_map-append f (map same (range_with_len 0 n)) (n ∷ [])
    ∙ ap (λ t. flat_map f (map same (range_with_len 0 n)) ++ t) (append-nil (f n))
    ∙ ap (λ t. t ++ f n) (flat_map-map f same (range_with_len 0 n))

-- a text with what one more number of a range adds
pub text_more : (f : ℕ → List ℕ) (n : ℕ) (old one new : List ℕ) → one ≡ old ++ flat_map f (range_with_len 0 n) → new ≡ one ++ f n → new ≡ old ++ flat_map f (range_with_len 0 (n + 1))
text_more f n old one new before last =
    then old one new (flat_map f (range_with_len 0 n)) (f n) before last ∙ ap (λ (t : List ℕ). old ++ t) (sym (one_more f n))

-- three pieces, the last of which may fail
pub three_on_ok : {T E : Type 0} (r : Result T E) (old one two new a b c : List ℕ) → one ≡ old ++ a → two ≡ one ++ b → OnOk r (new ≡ two ++ c) → OnOk r (new ≡ old ++ (a ++ (b ++ c)))
three_on_ok r old one two new a b c first second last = then_on_ok r old one new a (b ++ c) first (then_on_ok r one two new b c second last)
