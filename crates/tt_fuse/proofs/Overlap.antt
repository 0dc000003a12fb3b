-- Sources that hold two times at once.
use Rattle.std.proofs.Common.{◌≡◌, ℕ, zero, suc, ◌+◌, ◌*◌, ◌<◌, ◌≤◌, ◌⊎◌, inl, inr, Bool, true, false, List, [], ◌∷◌, length, get_or, replicate, refl, arith}
use Rattle.std.specs.List.{count_by, HoldsAt, Any}
use Rattle.std.proofs.lemmas.List.{length-replicate, get_or_default}
use Rattle.tt_span.specs.Interval.{Interval, Holds, Within}
use Rattle.tt_fuse.specs.Fusion.{IsOutside, IsFusion, LiesWithinSomeOther}
use Rattle.tt_fuse.specs.Depth.{holds, depth}
use Rattle.tt_fuse.proofs.Counting.{count_by-yes, count_by-no}
use Rattle.tt_fuse.proofs.Possible.{flag_of, Holds-from_holds, lo-IsFusion, hi-IsFusion}

-- some source outside the set holds both times
abbrev pub HoldsBothOutside : List Interval → List Bool → ℕ → ℕ → Type 0
HoldsBothOutside spans set a b = (k : ℕ) × IsOutside set k × HoldsAt (λ span. Holds span a × Holds span b) spans k

-- it does so further on in the list
later : (s : Interval) (spans : List Interval) (flag : Bool) (set : List Bool) (a b : ℕ) → HoldsBothOutside spans set a b → HoldsBothOutside (s ∷ spans) (flag ∷ set) a b
later s spans flag set a b w = (suc w.0, (omega (arith, w.1.0), w.1.1), w.2)

-- each span counts once at most
depth-cons-le : (x : ℕ) (s : Interval) (spans : List Interval) → depth (s ∷ spans) x ≤ 1 + depth spans x
depth-cons-le x s spans =
    elim (holds x s) as (λ b. holds x s ≡ b → depth (s ∷ spans) x ≤ 1 + depth spans x) [
      | true ↦ λ e. omega (arith, count_by-yes (holds x) s spans e)
      | false ↦ λ e. omega (arith, count_by-no (holds x) s spans e)
    ] refl

-- unless some source outside the set holds both, the two depths are no more than the sources and the set together
pub overlap : (spans : List Interval) (set : List Bool) (a b : ℕ) → length set ≡ length spans → HoldsBothOutside spans set a b ⊎ (depth spans a + depth spans b ≤ length spans + count_by flag_of set)
overlap [] set a b e = inr (omega arith)
overlap (s ∷ spans) [] a b e = absurd (omega arith)
overlap (s ∷ spans) (true ∷ set) a b e =
    elim (overlap spans set a b (omega arith)) [
      | inl w ↦ inl (later s spans true set a b w)
      | inr few ↦ inr (omega (arith, few, depth-cons-le a s spans, depth-cons-le b s spans, count_by-yes flag_of true set refl))
    ]
overlap (s ∷ spans) (false ∷ set) a b e =
    elim (overlap spans set a b (omega arith)) [
      | inl w ↦ inl (later s spans false set a b w)
      | inr few ↦
          let grows : count_by flag_of (false ∷ set) ≡ count_by flag_of set = count_by-no flag_of false set refl in
          elim (holds a s) as (λ t. holds a s ≡ t → HoldsBothOutside (s ∷ spans) (false ∷ set) a b ⊎ (depth (s ∷ spans) a + depth (s ∷ spans) b ≤ length (s ∷ spans) + count_by flag_of (false ∷ set))) [
            | false ↦ λ no_a. inr (omega (arith, few, grows, count_by-no (holds a) s spans no_a, depth-cons-le b s spans))
            | true ↦ λ yes_a.
                elim (holds b s) as (λ t. holds b s ≡ t → HoldsBothOutside (s ∷ spans) (false ∷ set) a b ⊎ (depth (s ∷ spans) a + depth (s ∷ spans) b ≤ length (s ∷ spans) + count_by flag_of (false ∷ set))) [
                  | false ↦ λ no_b. inr (omega (arith, few, grows, count_by-no (holds b) s spans no_b, depth-cons-le a s spans))
                  | true ↦ λ yes_b. inl (zero, (omega arith, refl), λ d. (Holds-from_holds a s yes_a, Holds-from_holds b s yes_b))
                ] refl
          ] refl
    ]

pub count_by-replicate : (n : ℕ) → count_by flag_of (replicate n false) ≡ 0
count_by-replicate zero = omega arith
count_by-replicate (suc n) = omega (arith, count_by-no flag_of false (replicate n false) refl, count_by-replicate n)

-- of every set of at most f sources some source outside it contains the fusion, where there are enough
pub within-some_other : (spans : List Interval) (f : ℕ) (i : Interval) → 3 * f + 1 ≤ length spans → IsFusion spans f i → LiesWithinSomeOther spans f i
within-some_other spans f i enough m set few =
    elim (overlap spans set i.lo i.hi few.one_flag_each) [
      | inl w ↦ (w.0, w.1, λ d. ((w.2 d).0.0, (w.2 d).1.1))
      | inr h ↦
          let size : count_by flag_of set ≤ f = few.few in
          absurd (omega (arith, h, lo-IsFusion spans f i m, hi-IsFusion spans f i m))
    ]

-- some source contains the fusion
pub within-some : (spans : List Interval) (f : ℕ) (i : Interval) → 2 * f + 1 ≤ length spans → IsFusion spans f i → Any (Within i) spans
within-some spans f i enough m =
    let none : List Bool = replicate (length spans) false in
    elim (overlap spans none i.lo i.hi (length-replicate (length spans) false)) [
      | inl w ↦
          let inside : w.0 < length spans = omega (arith, w.1.0, length-replicate (length spans) false) in
          (w.0, get_or spans w.0 i, inside, get_or_default spans w.0 (get_or spans w.0 i) i inside, ((w.2 i).0.0, (w.2 i).1.1))
      | inr h ↦ absurd (omega (arith, h, count_by-replicate (length spans), lo-IsFusion spans f i m, hi-IsFusion spans f i m))
    ]
