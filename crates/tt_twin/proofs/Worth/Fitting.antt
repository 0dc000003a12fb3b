-- At either end of a fusion few of the spans leave that end out.
use Rattle.std.proofs.Common.{◌≡◌, ℕ, ◌+◌, ◌-◌, ◌≤◌, Bool, true, false, cond, not, min, max, List, [], ◌∷◌, length, Option, Some, None, inl, inr, refl, ap, sym, ◌∙◌, arith}
use Rattle.std.specs.Prelude.{◌⊎◌, filter}
use Rattle.std.specs.List.{count_by}
use Rattle.std.proofs.lemmas.Bool.{leb-true, cases_lt}
use Rattle.std.proofs.lemmas.List.Sums.{sum_by-cons}
use Rattle.std.proofs.lemmas.Option.{same_Some}
use Rattle.tt_span.specs.Interval.{Interval}
use Rattle.tt_fuse.specs.Depth.{holds, depth, is_deep, lesser_of, greater_of, least_of, greatest_of, lower_ends, upper_ends, between, slow_fusion}
use Rattle.tt_twin.specs.declared.twins.Side.{Side}
use Rattle.tt_twin.specs.declared.twins.Side.TheVariants.{Low, High}
use Rattle.tt_twin.specs.Twin.{end_of}

one_way : (b : Bool) → cond b 1 0 + cond (not b) 1 0 ≡ 1
one_way true = refl
one_way false = refl

-- each element passes or does not
count_by-both : {X : Type 0} (p : X → Bool) (xs : List X) → count_by p xs + count_by (λ x. not (p x)) xs ≡ length xs
count_by-both p [] = refl
count_by-both p (x ∷ xs) =
    let a : count_by p (x ∷ xs) ≡ cond (p x) 1 0 + count_by p xs = sum_by-cons (λ y. cond (p y) 1 0) x xs in
    let b : count_by (λ y. not (p y)) (x ∷ xs) ≡ cond (not (p x)) 1 0 + count_by (λ y. not (p y)) xs = sum_by-cons (λ y. cond (not (p y)) 1 0) x xs in
    let one = one_way (p x) in
    let rest = count_by-both p xs in
    omega arith

min_one : (x y : ℕ) → (min x y ≡ x) ⊎ (min x y ≡ y)
min_one x y = elim (cases_lt x y) [ inl h ↦ inl (omega arith) | inr h ↦ inr (omega arith) ]

max_one : (x y : ℕ) → (max x y ≡ x) ⊎ (max x y ≡ y)
max_one x y = elim (cases_lt x y) [ inl h ↦ inr (omega arith) | inr h ↦ inl (omega arith) ]

module _ (p : ℕ → Bool) where
  one_passes : (x y z : ℕ) → p x ≡ true → p y ≡ true → (z ≡ x) ⊎ (z ≡ y) → p z ≡ true
  one_passes x y z a b (inl e) = ap p e ∙ a
  one_passes x y z a b (inr e) = ap p e ∙ b

  lesser_passes : (x y : ℕ) (o : Option ℕ) → p x ≡ true → ((z : ℕ) → o ≡ Some z → p z ≡ true) → lesser_of x o ≡ Some y → p y ≡ true
  lesser_passes x y None a h e = ap p (sym (same_Some x y e)) ∙ a
  lesser_passes x y (Some z) a h e = one_passes x z y a (h z refl) (elim (min_one x z) [ inl k ↦ inl (sym (same_Some (min x z) y e) ∙ k) | inr k ↦ inr (sym (same_Some (min x z) y e) ∙ k) ])

  greater_passes : (x y : ℕ) (o : Option ℕ) → p x ≡ true → ((z : ℕ) → o ≡ Some z → p z ≡ true) → greater_of x o ≡ Some y → p y ≡ true
  greater_passes x y None a h e = ap p (sym (same_Some x y e)) ∙ a
  greater_passes x y (Some z) a h e = one_passes x z y a (h z refl) (elim (max_one x z) [ inl k ↦ inl (sym (same_Some (max x z) y e) ∙ k) | inr k ↦ inr (sym (same_Some (max x z) y e) ∙ k) ])

  least_if : (x : ℕ) (xs : List ℕ) (b : Bool) → p x ≡ b → ((y : ℕ) → least_of (filter p xs) ≡ Some y → p y ≡ true) → (y : ℕ) → least_of (cond b (x ∷ filter p xs) (filter p xs)) ≡ Some y → p y ≡ true
  least_if x xs true is h y e = lesser_passes x y (least_of (filter p xs)) is h e
  least_if x xs false is h y e = h y e

  least_passes : (xs : List ℕ) (y : ℕ) → least_of (filter p xs) ≡ Some y → p y ≡ true
  least_passes [] y e = absurd cc
  least_passes (x ∷ xs) y e = least_if x xs (p x) refl (least_passes xs) y e

  greatest_if : (x : ℕ) (xs : List ℕ) (b : Bool) → p x ≡ b → ((y : ℕ) → greatest_of (filter p xs) ≡ Some y → p y ≡ true) → (y : ℕ) → greatest_of (cond b (x ∷ filter p xs) (filter p xs)) ≡ Some y → p y ≡ true
  greatest_if x xs true is h y e = greater_passes x y (greatest_of (filter p xs)) is h e
  greatest_if x xs false is h y e = h y e

  greatest_passes : (xs : List ℕ) (y : ℕ) → greatest_of (filter p xs) ≡ Some y → p y ≡ true
  greatest_passes [] y e = absurd cc
  greatest_passes (x ∷ xs) y e = greatest_if x xs (p x) refl (greatest_passes xs) y e

-- what stands between two ends
between_parts : (lo hi : Option ℕ) (i : Interval) → between lo hi ≡ Some i → (lo ≡ Some i.lo) × (hi ≡ Some i.hi)
between_parts None hi i e = absurd cc
between_parts (Some lo) None i e = absurd cc
between_parts (Some lo) (Some hi) i e =
    let same : record { lo = lo; hi = hi } ≡ i = same_Some (record { lo = lo; hi = hi }) i e in
    (ap (λ (j : Interval). Some j.lo) same, ap (λ (j : Interval). Some j.hi) same)

end_deep : (side : Side) (spans : List Interval) (f : ℕ) (i : Interval) → slow_fusion spans f ≡ Some i → is_deep spans f (end_of side i) ≡ true
end_deep Low spans f i e = least_passes (is_deep spans f) (lower_ends spans) i.lo (between_parts (least_of (filter (is_deep spans f) (lower_ends spans))) (greatest_of (filter (is_deep spans f) (upper_ends spans))) i e).0
end_deep High spans f i e = greatest_passes (is_deep spans f) (upper_ends spans) i.hi (between_parts (least_of (filter (is_deep spans f) (lower_ends spans))) (greatest_of (filter (is_deep spans f) (upper_ends spans))) i e).1

-- few spans leave the end of their fusion out
pub few_miss : (side : Side) (spans : List Interval) (f : ℕ) (i : Interval) → slow_fusion spans f ≡ Some i → count_by (λ s. not (holds (end_of side i) s)) spans ≤ f
few_miss side spans f i e =
    let deep : length spans - f ≤ depth spans (end_of side i) = leb-true (length spans - f) (depth spans (end_of side i)) (end_deep side spans f i e) in
    let all = count_by-both (holds (end_of side i)) spans in
    omega arith
