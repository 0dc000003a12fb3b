-- Lists: what stands in them, and where.
use Rattle.std.proofs.Common.{◌≡◌, ℕ, zero, suc, ◌+◌, ◌<◌, Bool, cond, List, [], ◌∷◌, ◌++◌, length, map, Some, inl, inr, refl, sym, ap, subst, ◌∙◌, arith}
use Rattle.std.specs.Prelude.{◌⊎◌, slice_get}
use Rattle.std.specs.List.{AllByRecursion, count_by, All}
use Rattle.std.proofs.lemmas.List.Sums.{sum_by-cons}

-- x is one of the elements
abbrev pub IsIn : {X : Type 0} → X → List X → Type 0
IsIn x [] = ⊥
IsIn x (y ∷ ys) = (y ≡ x) ⊎ IsIn x ys

pub holds_in : {X : Type 0} (P : X → Type 0) (x : X) (xs : List X) → AllByRecursion P xs → IsIn x xs → P x
holds_in P x [] h i = absurd i
holds_in P x (y ∷ ys) h (inl e) = subst P e h.0
holds_in P x (y ∷ ys) h (inr i) = holds_in P x ys h.1 i

pub in_back : {X : Type 0} (x : X) (front back : List X) → IsIn x back → IsIn x (front ++ back)
in_back x [] back i = i
in_back x (y ∷ front) back i = inr (in_back x front back i)

pub get_front : {X : Type 0} (front back : List X) (k : ℕ) → k < length front → slice_get (front ++ back) k ≡ slice_get front k
get_front [] back k h = absurd (omega arith)
get_front (x ∷ front) back zero h = refl
get_front (x ∷ front) back (suc k) h = get_front front back k (omega arith)

pub get_back : {X : Type 0} (front back : List X) (k j : ℕ) → k ≡ length front + j → slice_get (front ++ back) k ≡ slice_get back j
get_back [] back k j e = ap (slice_get back) (omega arith)
get_back (x ∷ front) back zero j e = absurd (omega arith)
get_back (x ∷ front) back (suc k) j e = get_back front back k j (omega arith)

pub get_one : {X : Type 0} (x y : X) (k : ℕ) → slice_get (x ∷ []) k ≡ Some y → x ≡ y
get_one x y zero h = cc
get_one x y (suc k) h = absurd cc

pub count_by-map : {X : Type 0} (p : X → Bool) (xs : List X) → count_by (λ b. b) (map p xs) ≡ count_by p xs
count_by-map p [] = refl
count_by-map p (x ∷ xs) =
    sum_by-cons (λ b. cond b 1 0) (p x) (map p xs) ∙ ap (λ n. cond (p x) 1 0 + n) (count_by-map p xs) ∙ sym (sum_by-cons (λ y. cond (p y) 1 0) x xs)

pub all_by_recursion : {X : Type 0} (P : X → Type 0) (xs : List X) → All P xs → AllByRecursion P xs
all_by_recursion P [] h = tt
all_by_recursion P (x ∷ xs) h = (h 0 x (omega arith), all_by_recursion P xs (λ k d l. h (suc k) d (omega arith)))

pub all_append : {X : Type 0} (P : X → Type 0) (xs ys : List X) → AllByRecursion P xs → AllByRecursion P ys → AllByRecursion P (xs ++ ys)
all_append P [] ys h k = k
all_append P (x ∷ xs) ys h k = (h.0, all_append P xs ys h.1 k)

pub all_weaker : {X : Type 0} (P Q : X → Type 0) → ((x : X) → P x → Q x) → (xs : List X) → AllByRecursion P xs → AllByRecursion Q xs
all_weaker P Q f [] h = tt
all_weaker P Q f (x ∷ xs) h = (f x h.0, all_weaker P Q f xs h.1)
