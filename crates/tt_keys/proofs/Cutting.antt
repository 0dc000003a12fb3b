-- Lists of which each element has a property, and a list cut at the first place of a byte.
use Rattle.std.proofs.Common.{◌≡◌, ◌≢◌, ℕ, ◌+◌, ◌<◌, List, [], ◌∷◌, ◌++◌, length, take, drop, get_or, refl, ap, ◌∙◌, sym, subst, add-one, drop-cons}
use Rattle.std.specs.List.{AllByRecursion}
use Rattle.std.proofs.lemmas.List.{take_more, take-append-drop}
use Rattle.tt_keys.specs.Line.{Lacks}

-- one more element that has it
pub all_more : (P : ℕ → Type 0) (xs : List ℕ) (x : ℕ) → AllByRecursion P xs → P x → AllByRecursion P (xs ++ x ∷ [])
all_more P [] x all has = (has, tt)
all_more P (y ∷ xs) x all has = (all.0, all_more P xs x all.1 has)

-- each element in the middle has it
pub all_in : (P : ℕ → Type 0) (xs : List ℕ) (x : ℕ) (ys : List ℕ) → AllByRecursion P (xs ++ x ∷ ys) → P x
all_in P [] x ys all = all.0
all_in P (y ∷ xs) x ys all = all_in P xs x ys all.1

-- the first part has one element more
pub all_take_more : (P : ℕ → Type 0) (xs : List ℕ) (i : ℕ) → i < length xs → AllByRecursion P (take i xs) → P (get_or xs i 0) → AllByRecursion P (take (i + 1) xs)
all_take_more P xs i below all has = subst (AllByRecursion P) (sym (take_more xs i 0 below)) (all_more P (take i xs) (get_or xs i 0) all has)

-- a list at one of its places
pub at_place : (xs : List ℕ) (i : ℕ) → i < length xs → xs ≡ take i xs ++ get_or xs i 0 ∷ drop (i + 1) xs
at_place xs i below =
    let tail : drop i xs ≡ get_or xs i 0 ∷ drop (i + 1) xs = rw add-one (drop-cons xs i 0 below) in
    sym (take-append-drop i xs) ∙ ap (λ (t : List ℕ). take i xs ++ t) tail

-- a byte that stands in a list is not lacking
pub lacks_not : (byte : ℕ) (xs ys : List ℕ) → Lacks byte (xs ++ byte ∷ ys) → ⊥
lacks_not byte xs ys lacks = all_in (λ other. other ≢ byte) xs byte ys lacks refl

-- a list is cut at the first place of a byte in one way
pub cut_once : (byte : ℕ) (xs ys vs ws : List ℕ) → Lacks byte xs → Lacks byte vs → xs ++ byte ∷ ys ≡ vs ++ byte ∷ ws → (xs ≡ vs) × (ys ≡ ws)
cut_once byte [] ys [] ws l m e = (refl, cc)
cut_once byte [] ys (v ∷ vs) ws l m e = let same : v ≡ byte = cc in absurd (m.0 same)
cut_once byte (x ∷ xs) ys [] ws l m e = let same : x ≡ byte = cc in absurd (l.0 same)
cut_once byte (x ∷ xs) ys (v ∷ vs) ws l m e =
    let heads : x ≡ v = cc in
    let tails : xs ++ byte ∷ ys ≡ vs ++ byte ∷ ws = cc in
    let rest = cut_once byte xs ys vs ws l.1 m.1 tails in
    let fronts : xs ≡ vs = rest.0 in
    (cc (heads, fronts), rest.1)
