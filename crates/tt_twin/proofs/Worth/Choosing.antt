-- The numbers below n that pass a test.
use Rattle.std.proofs.Common.{◌≡◌, ℕ, zero, suc, ◌+◌, ◌-◌, ◌<◌, ◌≤◌, Bool, true, false, cond, List, ◌∷◌, length, get_or, inl, inr, ap, subst, sym, ◌∙◌, arith}
use Rattle.std.specs.Prelude.{filter}
use Rattle.std.specs.List.{range_with_len}
use Rattle.std.specs.List.Sorted.{IsStrictlyIncreasing}
use Rattle.std.proofs.lemmas.Bool.{cases_eq, cases_lt}
use Rattle.std.proofs.lemmas.List.Elements.{filter_passes, All-filter}
use Rattle.std.proofs.lemmas.List.Kept.{IsStrictlyIncreasing-filter}
use Rattle.std.proofs.lemmas.List.Sums.{length-filter, count_by-le-length}
use Rattle.std.proofs.lemmas.List.FromFn.{length-range_with_len, get_or-range_with_len}

-- those that pass
abbrev pub chosen : (ℕ → Bool) → ℕ → List ℕ
chosen p n = filter p (range_with_len 0 n)

pub chosen-passes : (p : ℕ → Bool) (n k : ℕ) → k < length (chosen p n) → p (get_or (chosen p n) k 0) ≡ true
chosen-passes p n k h = filter_passes p (range_with_len 0 n) k 0 h

pub chosen-below : (p : ℕ → Bool) (n k : ℕ) → k < length (chosen p n) → get_or (chosen p n) k 0 < n
chosen-below p n k h =
    All-filter p (λ (i : ℕ). i < n) (range_with_len 0 n)
    (λ j d below. let within : j < n = omega (arith, length-range_with_len 0 n) in let is : get_or (range_with_len 0 n) j d ≡ 0 + j = get_or-range_with_len 0 n j d within in omega arith)
    k 0 h

pub length-chosen : (p : ℕ → Bool) (n : ℕ) → length (chosen p n) ≤ n
length-chosen p n = omega (arith, length-filter p (range_with_len 0 n), count_by-le-length p (range_with_len 0 n), length-range_with_len 0 n)

range_rises : (n : ℕ) → IsStrictlyIncreasing (range_with_len 0 n)
range_rises n = λ k h.
    let long : length (range_with_len 0 n) ≡ n = length-range_with_len 0 n in
    let a : get_or (range_with_len 0 n) k 0 ≡ 0 + k = get_or-range_with_len 0 n k 0 (omega arith) in
    let b : get_or (range_with_len 0 n) (k + 1) 0 ≡ 0 + (k + 1) = get_or-range_with_len 0 n (k + 1) 0 (omega arith) in
    omega arith

rises_on : (xs : List ℕ) → IsStrictlyIncreasing xs → (j g : ℕ) → j + suc g < length xs → get_or xs j 0 < get_or xs (j + suc g) 0
rises_on xs h j zero below =
    let next : j + 1 ≡ j + suc zero = omega arith in
    subst (λ (n : ℕ). get_or xs j 0 < get_or xs n 0) next (h j (omega arith))
rises_on xs h j (suc g) below =
    let before : get_or xs j 0 < get_or xs (j + suc g) 0 = rises_on xs h j g (omega arith) in
    let step : get_or xs (j + suc g) 0 < get_or xs (j + suc g + 1) 0 = h (j + suc g) (omega arith) in
    let next : j + suc g + 1 ≡ j + suc (suc g) = omega arith in
    let there : get_or xs (j + suc g + 1) 0 ≡ get_or xs (j + suc (suc g)) 0 = ap (λ (n : ℕ). get_or xs n 0) next in
    omega arith

rises_to : (xs : List ℕ) → IsStrictlyIncreasing xs → (j k : ℕ) → j < k → k < length xs → get_or xs j 0 < get_or xs k 0
rises_to xs h j k lt below =
    let there : j + suc (k - j - 1) ≡ k = omega arith in
    subst (λ (n : ℕ). get_or xs j 0 < get_or xs n 0) there (rises_on xs h j (k - j - 1) (omega arith))

-- each of them stands there once
pub chosen-once : (p : ℕ → Bool) (n j k : ℕ) → j < length (chosen p n) → k < length (chosen p n) → get_or (chosen p n) j 0 ≡ get_or (chosen p n) k 0 → j ≡ k
chosen-once p n j k below_j below_k e =
    let rising = IsStrictlyIncreasing-filter p (range_with_len 0 n) (range_rises n) in
    elim (cases_lt j k) [
      | inl lt ↦ let less : get_or (chosen p n) j 0 < get_or (chosen p n) k 0 = rises_to (chosen p n) rising j k lt below_k in absurd (omega arith)
      | inr ge ↦ elim (cases_eq j k) [
        | inl same ↦ same
        | inr other ↦ let less : get_or (chosen p n) k 0 < get_or (chosen p n) j 0 = rises_to (chosen p n) rising k j (omega arith) below_j in absurd (omega arith)
      ]
    ]

-- a number stands in a list
abbrev pub StandsIn : ℕ → List ℕ → Type 0
StandsIn i xs = (k : ℕ) × (k < length xs) × (get_or xs k 0 ≡ i)

behind : (i x : ℕ) (xs : List ℕ) → StandsIn i xs → StandsIn i (x ∷ xs)
behind i x xs s = (suc s.0, (let h : s.0 < length xs = s.1 in omega arith), s.2)

maybe_behind : (b : Bool) (i x : ℕ) (xs : List ℕ) → StandsIn i xs → StandsIn i (cond b (x ∷ xs) xs)
maybe_behind true i x xs s = behind i x xs s
maybe_behind false i x xs s = s

stands_from : (p : ℕ → Bool) (a n i : ℕ) → a ≤ i → i < a + n → p i ≡ true → StandsIn i (filter p (range_with_len a n))
stands_from p a zero i from below passes = absurd (omega arith)
stands_from p a (suc n) i from below passes =
    elim (cases_eq a i) [
      | inl here ↦
          let pass : p a ≡ true = ap p here ∙ passes in
          subst (λ (b : Bool). StandsIn i (cond b (a ∷ filter p (range_with_len (a + 1) n)) (filter p (range_with_len (a + 1) n)))) (sym pass) (0, omega arith, here)
      | inr other ↦ maybe_behind (p a) i a (filter p (range_with_len (a + 1) n)) (stands_from p (a + 1) n i (omega arith) (omega arith) passes)
    ]

-- each number that passes stands there
pub chosen-there : (p : ℕ → Bool) (n i : ℕ) → i < n → p i ≡ true → StandsIn i (chosen p n)
chosen-there p n i below passes = stands_from p 0 n i (omega arith) (omega arith) passes
