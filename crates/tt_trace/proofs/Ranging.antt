-- Lists and texts that a loop makes of the numbers from 0 on.
use Rattle.std.proofs.Common.{◌≡◌, ℕ, ◌+◌, List, [], ◌∷◌, ◌++◌, map, ap, sym, refl, ◌∙◌, arith}
use Rattle.std.specs.List.{range_with_len, flat_map}
use Rattle.std.proofs.lemmas.List.{flat_map_more}
use Rattle.std.proofs.lemmas.List.Folds.{flat_map-map}
use Rattle.tt_trace.specs.Tree.{Branch, branch_text}
use Rattle.std.proofs.lemmas.List.FromFn.{map-range_with_len_more}

-- the numbers from 0 on, and one more
pub range_more : (n : ℕ) → range_with_len 0 (n + 1) ≡ range_with_len 0 n ++ n ∷ []
range_more n = sym (map_same (range_with_len 0 (n + 1))) ∙ map-range_with_len_more (λ i. i) 0 n n (omega arith) ∙ ap (λ l. l ++ n ∷ []) (map_same (range_with_len 0 n))
  where
    map_same : (l : List ℕ) → map (λ i. i) l ≡ l
    map_same [] = refl
    map_same (x ∷ l) = ap (λ t. x ∷ t) (map_same l)

-- one more piece behind those of the numbers before
pub piece_more : {X : Type 0} (f : ℕ → List X) (front old new piece : List X) (n : ℕ) →
    new ≡ old ++ piece → old ≡ front ++ flat_map f (range_with_len 0 n) → piece ≡ f n → new ≡ front ++ flat_map f (range_with_len 0 (n + 1))
piece_more f front old new piece n pushed before is =
    pushed ∙ ap (λ l. l ++ piece) before ∙ ap (λ p. (front ++ flat_map f (range_with_len 0 n)) ++ p) is
    ∙ flat_map_more f front (range_with_len 0 n) n ∙ ap (λ l. front ++ flat_map f l) (sym (range_more n))

-- one more branch behind those of the numbers before
pub branch_more : (f : ℕ → Branch) (front old new piece : List ℕ) (n : ℕ) →
    new ≡ old ++ piece → old ≡ front ++ flat_map branch_text (map f (range_with_len 0 n)) → piece ≡ branch_text (f n) →
    new ≡ front ++ flat_map branch_text (map f (range_with_len 0 (n + 1)))
branch_more f front old new piece n pushed before is =
    piece_more (λ x. branch_text (f x)) front old new piece n pushed (before ∙ ap (λ l. front ++ l) (flat_map-map branch_text f (range_with_len 0 n))) is
    ∙ ap (λ l. front ++ l) (sym (flat_map-map branch_text f (range_with_len 0 (n + 1))))
