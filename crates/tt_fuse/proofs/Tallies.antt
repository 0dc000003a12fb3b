-- Lists that agree in how many of their elements pass a test.
use Rattle.std.proofs.Common.{◌≡◌, ℕ, zero, suc, ◌+◌, ◌*◌, ◌<◌, Bool, true, false, cond, eqb, List, [], ◌∷◌, ◌++◌, length, get_or, take, drop, map, replicate, sym, ◌∙◌, refl, arith}
use Rattle.std.specs.Prelude.{All}
use Rattle.std.specs.List.{count_by, remove}
use Rattle.std.specs.List.Sorted.{IsPermutation}
use Rattle.std.proofs.lemmas.Bool.{eq-eqb, eqb-true}
use Rattle.std.proofs.lemmas.List.{get_or_default}
use Rattle.std.proofs.lemmas.List.Elements.{All-nil, All-cons, All-head, All-tail}
use Rattle.std.proofs.lemmas.List.Folds.{fold-map, sum_by-replicate}
use Rattle.std.proofs.lemmas.List.Sums.{sum_by-append, sum_by-take-drop}
use Rattle.std.proofs.lemmas.List.Sorted.{IsPermutation-cons, IsPermutation-remove, IsPermutation-trans, IsPermutation-sym, IsPermutation-refl, sum_by-IsPermutation}
use Rattle.tt_fuse.proofs.Counting.{count_by-yes, count_by-no}

module _ {X : Type 0} (p : X → Bool) where
  -- where each element passes
  pub count_by-each : (xs : List X) → ((x : X) → p x ≡ true) → count_by p xs ≡ length xs
  count_by-each [] each = refl
  count_by-each (x ∷ xs) each = omega (arith, count_by-yes p x xs (each x), count_by-each xs each)

  -- where no element passes
  pub count_by-none : (xs : List X) → All (λ x. p x ≡ false) xs → count_by p xs ≡ 0
  count_by-none [] none = refl
  count_by-none (x ∷ xs) none =
      count_by-no p x xs (All-head (λ y. p y ≡ false) x xs none) ∙ count_by-none xs (All-tail (λ y. p y ≡ false) x xs none)

  pub none-count_by : (xs : List X) → count_by p xs ≡ 0 → All (λ x. p x ≡ false) xs
  none-count_by [] h = All-nil (λ y. p y ≡ false)
  none-count_by (x ∷ xs) h =
      elim (p x) as (λ b. p x ≡ b → All (λ y. p y ≡ false) (x ∷ xs)) [
        | true ↦ λ e. absurd (omega (arith, h, count_by-yes p x xs e))
        | false ↦ λ e. All-cons (λ y. p y ≡ false) x xs e (none-count_by xs (sym (count_by-no p x xs e) ∙ h))
      ] refl

  -- an element that passes
  pub some-count_by : (xs : List X) (d : X) → 0 < count_by p xs → (k : ℕ) × (k < length xs) × (p (get_or xs k d) ≡ true)
  some-count_by [] d h = absurd (omega arith)
  some-count_by (x ∷ xs) d h =
      elim (p x) as (λ b. p x ≡ b → (k : ℕ) × (k < length (x ∷ xs)) × (p (get_or (x ∷ xs) k d) ≡ true)) [
        | true ↦ λ e. (zero, omega arith, e)
        | false ↦ λ e.
            let w = some-count_by xs d (omega (arith, h, count_by-no p x xs e)) in
            (suc w.0, omega (arith, w.1), w.2)
      ] refl

  pub count_by-map : {Y : Type 0} (f : Y → X) (ys : List Y) → count_by p (map f ys) ≡ count_by (λ y. p (f y)) ys
  count_by-map f ys = fold-map (λ n x. n + cond (p x) 1 0) f 0 ys

  pub count_by-append : (xs ys : List X) → count_by p (xs ++ ys) ≡ count_by p xs + count_by p ys
  count_by-append xs ys = sum_by-append (λ x. cond (p x) 1 0) xs ys

  pub count_by-replicate : (n : ℕ) (x : X) → count_by p (replicate n x) ≡ cond (p x) n 0
  count_by-replicate n x =
      sum_by-replicate (λ y. cond (p y) 1 0) n x
      ∙ elim (p x) as (λ b. n * cond b 1 0 ≡ cond b n 0) [ true ↦ omega arith | false ↦ omega arith ]

  -- where only the first n elements can pass
  pub count_by-take : (xs : List X) (n : ℕ) → All (λ x. p x ≡ false) (drop n xs) → count_by p (take n xs) ≡ count_by p xs
  count_by-take xs n none = omega (arith, sum_by-take-drop (λ x. cond (p x) 1 0) xs n, count_by-none (drop n xs) none)

-- lists of which each test lets as many pass are the same in another order
pub IsPermutation-from_counts : (xs ys : List ℕ) → ((p : ℕ → Bool) → count_by p xs ≡ count_by p ys) → IsPermutation xs ys
IsPermutation-from_counts [] [] same = IsPermutation-refl []
IsPermutation-from_counts [] (y ∷ ys) same =
    absurd (omega (arith, same (λ _. true), count_by-yes (λ _. true) y ys refl))
IsPermutation-from_counts (x ∷ xs) ys same =
    let is_x : ℕ → Bool = λ y. eqb y x in
    let w = some-count_by is_x ys 0 (omega (arith, same is_x, count_by-yes is_x x xs (eq-eqb x x refl))) in
    let here : x ≡ get_or ys w.0 x = sym (eqb-true (get_or ys w.0 0) x w.2) ∙ get_or_default ys w.0 0 x w.1 in
    let moved : IsPermutation ys (x ∷ remove ys w.0) = IsPermutation-remove ys w.0 x w.1 here in
    let rest : (p : ℕ → Bool) → count_by p xs ≡ count_by p (remove ys w.0) = λ p.
    let all : count_by p (x ∷ remove ys w.0) ≡ count_by p ys = sum_by-IsPermutation (λ y. cond (p y) 1 0) ys (x ∷ remove ys w.0) moved in
    elim (p x) as (λ b. p x ≡ b → count_by p xs ≡ count_by p (remove ys w.0)) [
      | true ↦ λ e. omega (arith, all, same p, count_by-yes p x xs e, count_by-yes p x (remove ys w.0) e)
      | false ↦ λ e. omega (arith, all, same p, count_by-no p x xs e, count_by-no p x (remove ys w.0) e)
    ] refl in
    IsPermutation-trans (x ∷ xs) (x ∷ remove ys w.0) ys (IsPermutation-cons x xs (remove ys w.0) (IsPermutation-from_counts xs (remove ys w.0) rest)) (IsPermutation-sym ys (x ∷ remove ys w.0) moved)
