-- Beginnings of lists.
use Rattle.std.proofs.Common.{◌≡◌, ◌⊎◌, List, [], ◌∷◌, ◌++◌, refl, ap, sym, ◌∙◌, inl, inr, ⊎_elim, append_assoc}
use mathlib.Core.List.{IsPrefix}

module _ {A : Type 0} where
  pub prefix_trans : (xs ys zs : List A) → IsPrefix xs ys → IsPrefix ys zs → IsPrefix xs zs
  prefix_trans xs ys zs p q = (p.0 ++ q.0, sym (append_assoc xs p.0 q.0) ∙ (ap (λ w. w ++ q.0) p.1 ∙ q.1))

  -- of two beginnings of one list, one begins the other
  pub one_begins : (xs ys zs : List A) → IsPrefix xs zs → IsPrefix ys zs → IsPrefix xs ys ⊎ IsPrefix ys xs
  one_begins [] ys zs p q = inl (ys, refl)
  one_begins (x ∷ xs) [] zs p q = inr (x ∷ xs, refl)
  one_begins (x ∷ xs) (y ∷ ys) [] p q = absurd (cc (p.1))
  one_begins (x ∷ xs) (y ∷ ys) (z ∷ zs) p q =
      let heads : x ≡ y = cc (p.1, q.1) in
      ⊎_elim (λ (t : IsPrefix xs ys). inl (t.0, cc (heads, t.1))) (λ (t : IsPrefix ys xs). inr (t.0, cc (heads, t.1))) (one_begins xs ys zs (p.0, cc (p.1)) (q.0, cc (q.1)))
