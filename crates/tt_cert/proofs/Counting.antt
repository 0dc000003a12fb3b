-- How many elements of a list pass a test.
use Rattle.std.proofs.Common.{◌≡◌, ◌≢◌, ℕ, zero, suc, ◌+◌, ◌<◌, ◌≤◌, inl, inr, Bool, true, false, cond, eqb, List, [], ◌∷◌, length, get_or, take, ◌∙◌, ap, sym, refl, arith}
use Rattle.std.specs.List.{count_by, All, AllPairs}
use Rattle.std.proofs.lemmas.List.Sums.{count_by_more_yes, count_by_more_no}
use Rattle.tt_fuse.proofs.Counting.{count_by-yes, count_by-no}
use Rattle.std.proofs.lemmas.List.Elements.{All-head, All-tail}
use Rattle.std.proofs.lemmas.Bool.{cond-true, cond-false, cases_eq, eq-eqb, ne_eqb}

module _ {X : Type 0} (p : X → Bool) where
  pub count_by-le-cons : (x : X) (xs : List X) → count_by p xs ≤ count_by p (x ∷ xs)
  count_by-le-cons x xs =
      elim (p x) as (λ b. p x ≡ b → count_by p xs ≤ count_by p (x ∷ xs)) [
        | true ↦ λ e. omega (arith, count_by-yes p x xs e)
        | false ↦ λ e. omega (arith, count_by-no p x xs e)
      ] refl

-- where each element that passes one test passes another, no more pass the first
pub count_by-le-count_by : {X : Type 0} (p q : X → Bool) (xs : List X) → All (λ x. p x ≡ true → q x ≡ true) xs → count_by p xs ≤ count_by q xs
count_by-le-count_by p q [] all = omega arith
count_by-le-count_by {X} p q (x ∷ xs) all =
    let rest : count_by p xs ≤ count_by q xs = count_by-le-count_by p q xs (All-tail (λ x. p x ≡ true → q x ≡ true) x xs all) in
    elim (p x) as (λ b. p x ≡ b → count_by p (x ∷ xs) ≤ count_by q (x ∷ xs)) [
      | true ↦ λ e. omega (arith, count_by-yes p x xs e, count_by-yes q x xs (All-head (λ x. p x ≡ true → q x ≡ true) x xs all e))
      | false ↦ λ e. omega (arith, count_by-no p x xs e, count_by-le-cons q x xs)
    ] refl

-- how many of the numbers below n pass a test
abbrev pub count_below : (ℕ → Bool) → ℕ → ℕ
count_below q zero = 0
count_below q (suc n) = cond (q n) 1 0 + count_below q n

-- a test of the elements, as a test of their places
pub count_by-count_below : {X : Type 0} (p : X → Bool) (xs : List X) (d : X) (n : ℕ) → n ≤ length xs → count_by p (take n xs) ≡ count_below (λ i. p (get_or xs i d)) n
count_by-count_below p xs d zero short = refl
count_by-count_below p xs d (suc n) short =
    let rest : count_by p (take n xs) ≡ count_below (λ i. p (get_or xs i d)) n = count_by-count_below p xs d n (omega arith) in
    let one : n + 1 ≡ suc n = omega arith in
    elim (p (get_or xs n d)) as (λ b. p (get_or xs n d) ≡ b → count_by p (take (suc n) xs) ≡ cond b 1 0 + count_below (λ i. p (get_or xs i d)) n) [
      | true ↦ λ e. omega (arith, rest, ap (λ m. count_by p (take m xs)) one, count_by_more_yes p xs n d (omega arith) e)
      | false ↦ λ e. omega (arith, rest, ap (λ m. count_by p (take m xs)) one, count_by_more_no p xs n d (omega arith) e)
    ] refl

-- a test with one number taken out
abbrev pub without : (ℕ → Bool) → ℕ → ℕ → Bool
without q i k = cond (eqb k i) false (q k)

without-le : (q : ℕ → Bool) (i n : ℕ) → count_below (without q i) n ≤ count_below q n
without-le q i zero = omega arith
without-le q i (suc n) =
    let rest : count_below (without q i) n ≤ count_below q n = without-le q i n in
    let here : cond (without q i n) 1 0 ≤ cond (q n) 1 0 =
    elim (eqb n i) as (λ b. cond (cond b false (q n)) 1 0 ≤ cond (q n) 1 0) [ true ↦ omega arith | false ↦ omega arith ] in
    omega (arith, rest, here)

without-less : (q : ℕ → Bool) (i n : ℕ) → i < n → q i ≡ true → 1 + count_below (without q i) n ≤ count_below q n
without-less q i zero below passes = absurd (omega arith)
without-less q i (suc n) below passes =
    elim (cases_eq n i) [
      | inl same ↦
          let out : without q i n ≡ false = cond-true (eqb n i) false (q n) (eq-eqb n i same) in
          let in' : q n ≡ true = ap q same ∙ passes in
          omega (arith, cond-false {A = ℕ} (without q i n) 1 0 out, cond-true {A = ℕ} (q n) 1 0 in', without-le q i n)
      | inr other ↦
          let kept : without q i n ≡ q n = cond-false (eqb n i) false (q n) (ne_eqb n i other) in
          let as_many : cond (without q i n) 1 0 ≡ cond (q n) 1 0 = ap {B = ℕ} (λ b. cond b 1 0) kept in
          omega (arith, without-less q i n (omega (arith, other)) passes, as_many)
    ]

-- no more different numbers are named than there are
pub length-le-count_below : (is : List ℕ) (q : ℕ → Bool) (n : ℕ) → AllPairs (λ i j. i ≢ j) is → All (λ i. (i < n) × (q i ≡ true)) is → length is ≤ count_below q n
length-le-count_below [] q n distinct all = omega arith
length-le-count_below (i ∷ is) q n distinct all =
    let here : (i < n) × (q i ≡ true) = All-head (λ i. (i < n) × (q i ≡ true)) i is all in
    let rest = All-tail (λ i. (i < n) × (q i ≡ true)) i is all in
    let left : All (λ j. (j < n) × (without q i j ≡ true)) is = λ k d below.
    let other : get_or is k d ≡ i → ⊥ = λ e. distinct 0 (suc k) d (omega arith) (omega arith) (sym e) in
    ((rest k d below).0, cond-false (eqb (get_or is k d) i) false (q (get_or is k d)) (ne_eqb (get_or is k d) i other) ∙ (rest k d below).1) in
    let fewer : length is ≤ count_below (without q i) n = length-le-count_below is (without q i) n (λ a b d before below. distinct (suc a) (suc b) d (omega arith) (omega arith)) left in
    omega (arith, without-less q i n here.0 here.1)
