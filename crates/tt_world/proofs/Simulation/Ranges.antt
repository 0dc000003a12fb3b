-- Lists that a function makes of the numbers below n.
use Rattle.std.proofs.Common.{◌≡◌, ℕ, ◌+◌, ◌<◌, ◌≤◌, Bool, cond, inl, inr, List, [], ◌∷◌, map, length, get_or, set, count_by, slice_get, Some, None, refl, sym, ap, ◌∙◌, arith, get_or-set_same, get_or-set_other, length-set}
use Rattle.std.specs.List.{range_with_len}
use Rattle.std.proofs.lemmas.Bool.{cases_eq}
use Rattle.std.proofs.lemmas.List.{same_lists}
use Rattle.std.proofs.lemmas.List.Folds.{fold-map}
use Rattle.std.proofs.lemmas.List.FromFn.{length-map-range_with_len, get_or-map-range_with_len}
use Rattle.std.proofs.lemmas.Option.{slice_get-get_or, slice_get_past}

pub get_or-made : {X : Type 0} (f : ℕ → X) (n j : ℕ) (d : X) → j < n → get_or (map f (range_with_len 0 n)) j d ≡ f j
get_or-made f n j d below = get_or-map-range_with_len f 0 n j j d below (omega arith)

pub slice_get-made : {X : Type 0} (f : ℕ → X) (n j : ℕ) → j < n → slice_get (map f (range_with_len 0 n)) j ≡ Some (f j)
slice_get-made f n j below =
    slice_get-get_or (map f (range_with_len 0 n)) j (f j) (omega (arith, length-map-range_with_len f 0 n))
    ∙ ap Some (get_or-made f n j (f j) below)

pub slice_get-made_past : {X : Type 0} (f : ℕ → X) (n j : ℕ) → n ≤ j → slice_get (map f (range_with_len 0 n)) j ≡ None
slice_get-made_past f n j past = slice_get_past (map f (range_with_len 0 n)) j (omega (arith, length-map-range_with_len f 0 n))

pub map-same : {X : Type 0} (f g : ℕ → X) (n : ℕ) → ((j : ℕ) → f j ≡ g j) → map f (range_with_len 0 n) ≡ map g (range_with_len 0 n)
map-same f g n same =
    same_lists _ _ (length-map-range_with_len f 0 n ∙ sym (length-map-range_with_len g 0 n))
    (λ k d below.
    let within : k < n = omega (arith, length-map-range_with_len f 0 n) in
    get_or-made f n k d within ∙ same k ∙ sym (get_or-made g n k d within))

-- a write at i, where the two functions agree elsewhere
pub set-made : {X : Type 0} (f g : ℕ → X) (n i : ℕ) (x : X) → x ≡ g i → ((j : ℕ) → (j ≡ i → ⊥) → f j ≡ g j)
    → set (map f (range_with_len 0 n)) i x ≡ map g (range_with_len 0 n)
set-made f g n i x here others =
    same_lists _ _ (length-set (map f (range_with_len 0 n)) i x ∙ length-map-range_with_len f 0 n ∙ sym (length-map-range_with_len g 0 n))
    (λ k d below.
    let within : k < n = omega (arith, length-set (map f (range_with_len 0 n)) i x, length-map-range_with_len f 0 n) in
    let long : k < length (map f (range_with_len 0 n)) = omega (arith, length-map-range_with_len f 0 n) in
    elim (cases_eq k i) [
      | inl at_i ↦
          let far : i < length (map f (range_with_len 0 n)) = omega arith in
          ap (λ (j : ℕ). get_or (set (map f (range_with_len 0 n)) i x) j d) at_i ∙ get_or-set_same (map f (range_with_len 0 n)) i x d far
          ∙ here ∙ ap g (sym at_i) ∙ sym (get_or-made g n k d within)
      | inr other ↦
          get_or-set_other (map f (range_with_len 0 n)) i k x d other ∙ get_or-made f n k d within ∙ others k other ∙ sym (get_or-made g n k d within)
    ])

pub map-map : {X Y Z : Type 0} (f : Y → Z) (g : X → Y) (xs : List X) → map f (map g xs) ≡ map (λ x. f (g x)) xs
map-map f g [] = refl
map-map f g (x ∷ xs) = ap (λ t. f (g x) ∷ t) (map-map f g xs)

pub count_by-map : {X Y : Type 0} (p : Y → Bool) (g : X → Y) (xs : List X) → count_by p (map g xs) ≡ count_by (λ x. p (g x)) xs
count_by-map p g xs = fold-map (λ (a : ℕ) y. a + cond (p y) 1 0) g 0 xs
