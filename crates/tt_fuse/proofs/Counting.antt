-- How many elements of a list pass a test.
use Rattle.std.proofs.Common.{◌≡◌, ℕ, zero, suc, ◌+◌, ◌<◌, ◌≤◌, Bool, true, false, cond, List, [], ◌∷◌, length, ◌∙◌, ap, refl, arith}
use Rattle.std.specs.List.{count_by, HoldsAt}
use Rattle.std.proofs.lemmas.List.Sums.{sum_by-cons}
use Rattle.std.proofs.lemmas.Bool.{cond-true, cond-false}

module _ {X : Type 0} (p : X → Bool) where
  pub count_by-cons : (x : X) (xs : List X) → count_by p (x ∷ xs) ≡ cond (p x) 1 0 + count_by p xs
  count_by-cons x xs = sum_by-cons (λ y. cond (p y) 1 0) x xs

  pub count_by-yes : (x : X) (xs : List X) → p x ≡ true → count_by p (x ∷ xs) ≡ 1 + count_by p xs
  count_by-yes x xs h = count_by-cons x xs ∙ ap (λ n. n + count_by p xs) (cond-true (p x) 1 0 h)

  pub count_by-no : (x : X) (xs : List X) → p x ≡ false → count_by p (x ∷ xs) ≡ count_by p xs
  count_by-no x xs h =
      let e : count_by p (x ∷ xs) ≡ 0 + count_by p xs = count_by-cons x xs ∙ ap (λ n. n + count_by p xs) (cond-false (p x) 1 0 h) in
      omega arith

  -- a list of which no element from k on passes has k that pass at most
  pub count_by-le-first : (xs : List X) (k : ℕ) → ((j : ℕ) → k ≤ j → j < length xs → HoldsAt (λ x. p x ≡ false) xs j) → count_by p xs ≤ k
  count_by-le-first [] k h = omega arith
  count_by-le-first (x ∷ xs) zero h =
      let here : p x ≡ false = h 0 (omega arith) (omega arith) x in
      let rest : count_by p xs ≤ 0 = count_by-le-first xs 0 (λ j a b. h (suc j) (omega arith) (omega arith)) in
      omega (arith, count_by-no x xs here)
  count_by-le-first (x ∷ xs) (suc k) h =
      let rest : count_by p xs ≤ k = count_by-le-first xs k (λ j a b. h (suc j) (omega arith) (omega arith)) in
      elim (p x) as (λ b. p x ≡ b → count_by p (x ∷ xs) ≤ suc k) [
        | true ↦ λ e. omega (arith, count_by-yes x xs e)
        | false ↦ λ e. omega (arith, count_by-no x xs e)
      ] refl

  -- a list of which each element up to the one at k passes has more than k that pass
  pub count_by-above : (xs : List X) (k : ℕ) → k < length xs → ((j : ℕ) → j ≤ k → HoldsAt (λ x. p x ≡ true) xs j) → k < count_by p xs
  count_by-above [] k l h = absurd (omega arith)
  count_by-above (x ∷ xs) zero l h =
      let here : p x ≡ true = h 0 (omega arith) x in
      omega (arith, count_by-yes x xs here)
  count_by-above (x ∷ xs) (suc k) l h =
      let here : p x ≡ true = h 0 (omega arith) x in
      let rest : k < count_by p xs = count_by-above xs k (omega arith) (λ j a. h (suc j) (omega arith)) in
      omega (arith, count_by-yes x xs here)
