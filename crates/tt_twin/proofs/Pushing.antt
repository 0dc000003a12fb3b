-- Lists that a loop makes by pushing.
use Rattle.std.proofs.Common.{◌≡◌, ℕ, ◌+◌, ◌<◌, Bool, cond, List, [], ◌∷◌, ◌++◌, map, take, get_or, length, filter, ap, sym, refl, ◌∙◌, arith}
use Rattle.std.specs.List.{range_with_len}
use Rattle.std.proofs.lemmas.List.{append_assoc, take_more, map-append}
use Rattle.std.proofs.lemmas.List.FromFn.{map-range_with_len_more, filter_of_map_range_with_len_more}

-- one more element that a function makes of its place
pub made_more : {X : Type 0} (f : ℕ → X) (front old new : List X) (n : ℕ) (x : X) → new ≡ old ++ x ∷ [] → old ≡ front ++ map f (range_with_len 0 n) → x ≡ f n → new ≡ front ++ map f (range_with_len 0 (n + 1))
made_more f front old new n x pushed before is =
    pushed ∙ ap (λ l. l ++ x ∷ []) before ∙ ap (λ y. (front ++ map f (range_with_len 0 n)) ++ y ∷ []) is
    ∙ append_assoc front (map f (range_with_len 0 n)) (f n ∷ []) ∙ ap (λ l. front ++ l) (sym (map-range_with_len_more f 0 n n (omega arith)))

-- one more element that a function makes of the next of a list
pub mapped_more : {A X : Type 0} (f : A → X) (s : List A) (front old new : List X) (i : ℕ) (d : A) → i < length s → new ≡ old ++ f (get_or s i d) ∷ [] → old ≡ front ++ map f (take i s) → new ≡ front ++ map f (take (i + 1) s)
mapped_more f s front old new i d inside pushed before =
    pushed ∙ ap (λ l. l ++ f (get_or s i d) ∷ []) before ∙ append_assoc front (map f (take i s)) (f (get_or s i d) ∷ [])
    ∙ ap (λ l. front ++ l) (sym (map-append f (take i s) (get_or s i d ∷ [])) ∙ ap (λ l. map f l) (sym (take_more s i d inside)))

-- one more number, if it passes
pub chosen_more : (p : ℕ → Bool) (n : ℕ) (b : Bool) (old new : List ℕ) → p n ≡ b → old ≡ filter p (range_with_len 0 n) → new ≡ old ++ cond b (n ∷ []) [] → new ≡ filter p (range_with_len 0 (n + 1))
chosen_more p n b old new is before pushed =
    pushed ∙ ap (λ l. l ++ cond b (n ∷ []) []) before ∙ ap (λ (c : Bool). filter p (range_with_len 0 n) ++ cond c (n ∷ []) []) (sym is)
    ∙ sym (filter_range p n)
  where
    map_same : (l : List ℕ) → map (λ i. i) l ≡ l
    map_same [] = refl
    map_same (x ∷ l) = ap (λ t. x ∷ t) (map_same l)

    filter_range : (p : ℕ → Bool) (n : ℕ) → filter p (range_with_len 0 (n + 1)) ≡ filter p (range_with_len 0 n) ++ cond (p n) (n ∷ []) []
    filter_range p n =
        ap (λ l. filter p l) (sym (map_same (range_with_len 0 (n + 1)))) ∙ filter_of_map_range_with_len_more p (λ i. i) 0 n n (omega arith)
        ∙ ap (λ l. filter p l ++ cond (p n) (n ∷ []) []) (map_same (range_with_len 0 n))
