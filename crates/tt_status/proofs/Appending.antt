-- Texts that grow at their end.
use Rattle.std.proofs.Common.{◌≡◌, ℕ, ◌+◌, List, ◌++◌, map, Result, Ok, Err, ◌∙◌, ap, sym, append_assoc, append-nil, arith, [], ◌∷◌}
use Rattle.std.specs.Prelude.{OnOk}
use Rattle.std.specs.List.{flat_map, range_with_len}
use Rattle.std.proofs.lemmas.Grind.{flat_map-append}
use Rattle.std.proofs.lemmas.List.Folds.{flat_map-map}
use Rattle.std.proofs.lemmas.List.FromFn.{map-range_with_len_more}

-- two pieces one behind the other
pub then : (old one new a b : List ℕ) → one ≡ old ++ a → new ≡ one ++ b → new ≡ old ++ (a ++ b)
then old one new a b first last = last ∙ ap (λ (t : List ℕ). t ++ b) first ∙ append_assoc old a b

-- the same, where the last one may fail
pub then_on_ok : {T E : Type 0} (r : Result T E) (old one new a b : List ℕ) → one ≡ old ++ a → OnOk r (new ≡ one ++ b) → OnOk r (new ≡ old ++ (a ++ b))
then_on_ok (Ok x) old one new a b first last = then old one new a b first last
then_on_ok (Err e) old one new a b first last = tt

-- the text of one thing is that of a list of it
pub alone : {X : Type 0} (f : X → List ℕ) (x : X) (old new : List ℕ) → new ≡ old ++ f x → new ≡ old ++ flat_map f (x ∷ [])
alone f x old new is = is ∙ ap (λ (t : List ℕ). old ++ t) (sym (append-nil (f x)))

pub alone_on_ok : {X T E : Type 0} (f : X → List ℕ) (r : Result T E) (x : X) (old new : List ℕ) → OnOk r (new ≡ old ++ f x) → OnOk r (new ≡ old ++ flat_map f (x ∷ []))
alone_on_ok f (Ok y) x old new is = alone f x old new is
alone_on_ok f (Err e) x old new is = tt

-- the texts of two lists are that of both
pub more : {X : Type 0} (f : X → List ℕ) (xs ys : List X) (old one new : List ℕ) → one ≡ old ++ flat_map f xs → new ≡ one ++ flat_map f ys → new ≡ old ++ flat_map f (xs ++ ys)
more f xs ys old one new first last =
    then old one new (flat_map f xs) (flat_map f ys) first last ∙ ap (λ (t : List ℕ). old ++ t) (sym (flat_map-append f xs ys))

pub more_on_ok : {X T E : Type 0} (f : X → List ℕ) (r : Result T E) (xs ys : List X) (old one new : List ℕ) → one ≡ old ++ flat_map f xs → OnOk r (new ≡ one ++ flat_map f ys) → OnOk r (new ≡ old ++ flat_map f (xs ++ ys))
more_on_ok f (Ok y) xs ys old one new first last = more f xs ys old one new first last
more_on_ok f (Err e) xs ys old one new first last = tt

-- one more number of a range
pub one_more : {X : Type 0} (f : ℕ → List X) (n : ℕ) → flat_map f (range_with_len 0 (n + 1)) ≡ flat_map f (range_with_len 0 n) ++ f n
one_more f n =
    let same = λ (i : ℕ). i in
    sym (flat_map-map f same (range_with_len 0 (n + 1)))
    ∙ ap (λ ns. flat_map f ns) (map-range_with_len_more same 0 n n (omega arith))
    ∙ flat_map-append f (map same (range_with_len 0 n)) (n ∷ [])
    ∙ ap (λ t. flat_map f (map same (range_with_len 0 n)) ++ t) (append-nil (f n))
    ∙ ap (λ t. t ++ f n) (flat_map-map f same (range_with_len 0 n))
