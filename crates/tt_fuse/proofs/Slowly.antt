-- The fusion found by trying each end of each span.
use Rattle.std.proofs.Common.{◌≡◌, ℕ, zero, suc, ◌-◌, ◌<◌, ◌≤◌, ◌⊎◌, inl, inr, Bool, true, false, cond, List, [], ◌∷◌, length, refl, sym, ◌∙◌, ap, subst, arith}
use Rattle.std.specs.Prelude.{Option, Some, None, MatchOption, Contains, ◌↔◌, min, max}
use Rattle.std.specs.List.{All, filter}
use Rattle.std.proofs.lemmas.Bool.{leb-true, le-leb, cases_lt, false≢true}
use Rattle.std.proofs.lemmas.List.Elements.{All-nil, All-cons, All-head, All-tail, All-contains, All-map, All-weaker}
use Rattle.tt_span.specs.Time.{max_time}
use Rattle.tt_span.specs.Interval.{Interval, IsInterval, Holds}
use Rattle.tt_fuse.specs.Fusion.{IsFusion, HasNoPossibleTime}
use Rattle.tt_fuse.specs.Depth.{holds, depth, is_deep, lesser_of, greater_of, least_of, greatest_of, lower_ends, upper_ends, between, slow_fusion}
use Rattle.tt_fuse.proofs.Counting.{count_by-yes, count_by-no}
use Rattle.tt_fuse.proofs.Possible.{holds-from_Holds, Holds-from_holds, depth-from_possible, IsFusion-from_ends, unique-IsFusion}

Contains-here : (x : ℕ) (xs : List ℕ) → Contains (x ∷ xs) x
Contains-here x xs = (zero, omega arith, refl)

Contains-there : (x y : ℕ) (xs : List ℕ) → Contains xs y → Contains (x ∷ xs) y
Contains-there x y xs c = (suc c.0, omega (arith, c.1), c.2)

-- what the least element of those that pass a test is
abbrev IsLeast : (ℕ → Bool) → List ℕ → Option ℕ → Type 0
IsLeast p xs o = MatchOption o (All (λ x. p x ≡ false) xs) (λ m. Contains xs m × (p m ≡ true) × All (λ x. p x ≡ true → m ≤ x) xs)

-- what the greatest is
abbrev IsGreatest : (ℕ → Bool) → List ℕ → Option ℕ → Type 0
IsGreatest p xs o = MatchOption o (All (λ x. p x ≡ false) xs) (λ m. Contains xs m × (p m ≡ true) × All (λ x. p x ≡ true → x ≤ m) xs)

module _ (p : ℕ → Bool) where
  no_bound : (Q : ℕ → Type 0) (xs : List ℕ) → All (λ x. p x ≡ false) xs → All (λ x. p x ≡ true → Q x) xs
  no_bound Q xs none = All-weaker (λ x. p x ≡ false) (λ x. p x ≡ true → Q x) (λ x fails passes. absurd (false≢true (sym fails ∙ passes))) xs none

  least-yes : (x : ℕ) (xs : List ℕ) (o : Option ℕ) → p x ≡ true → IsLeast p xs o → IsLeast p (x ∷ xs) (lesser_of x o)
  least-yes x xs None passes none =
      (Contains-here x xs, passes, All-cons (λ y. p y ≡ true → x ≤ y) x xs (λ _. omega arith) (no_bound (λ y. x ≤ y) xs none))
  least-yes x xs (Some m) passes h =
      elim (cases_lt x m) as (λ _. IsLeast p (x ∷ xs) (Some (min x m))) [
        | inl below ↦
            let e : min x m ≡ x = omega arith in
            let P : ℕ → Type 0 = λ n. IsLeast p (x ∷ xs) (Some n) in
            subst P (sym e) (Contains-here x xs, passes, All-cons (λ y. p y ≡ true → x ≤ y) x xs (λ _. omega arith) (All-weaker (λ y. p y ≡ true → m ≤ y) (λ y. p y ≡ true → x ≤ y) (λ y b q. omega (arith, b q)) xs h.2))
        | inr above ↦
            let e : min x m ≡ m = omega arith in
            let P : ℕ → Type 0 = λ n. IsLeast p (x ∷ xs) (Some n) in
            subst P (sym e) (Contains-there x m xs h.0, h.1, All-cons (λ y. p y ≡ true → m ≤ y) x xs (λ _. above) h.2)
      ]

  least-no : (x : ℕ) (xs : List ℕ) (o : Option ℕ) → p x ≡ false → IsLeast p xs o → IsLeast p (x ∷ xs) o
  least-no x xs None fails none = All-cons (λ y. p y ≡ false) x xs fails none
  least-no x xs (Some m) fails h =
      (Contains-there x m xs h.0, h.1, All-cons (λ y. p y ≡ true → m ≤ y) x xs (λ passes. absurd (false≢true (sym fails ∙ passes))) h.2)

  least-filter : (xs : List ℕ) → IsLeast p xs (least_of (filter p xs))
  least-filter [] = All-nil (λ x. p x ≡ false)
  least-filter (x ∷ xs) =
      elim (p x) as (λ b. p x ≡ b → IsLeast p (x ∷ xs) (least_of (cond b (x ∷ filter p xs) (filter p xs)))) [
        | true ↦ λ passes. least-yes x xs (least_of (filter p xs)) passes (least-filter xs)
        | false ↦ λ fails. least-no x xs (least_of (filter p xs)) fails (least-filter xs)
      ] refl

  greatest-yes : (x : ℕ) (xs : List ℕ) (o : Option ℕ) → p x ≡ true → IsGreatest p xs o → IsGreatest p (x ∷ xs) (greater_of x o)
  greatest-yes x xs None passes none =
      (Contains-here x xs, passes, All-cons (λ y. p y ≡ true → y ≤ x) x xs (λ _. omega arith) (no_bound (λ y. y ≤ x) xs none))
  greatest-yes x xs (Some m) passes h =
      elim (cases_lt m x) as (λ _. IsGreatest p (x ∷ xs) (Some (max x m))) [
        | inl above ↦
            let e : max x m ≡ x = omega arith in
            let P : ℕ → Type 0 = λ n. IsGreatest p (x ∷ xs) (Some n) in
            subst P (sym e) (Contains-here x xs, passes, All-cons (λ y. p y ≡ true → y ≤ x) x xs (λ _. omega arith) (All-weaker (λ y. p y ≡ true → y ≤ m) (λ y. p y ≡ true → y ≤ x) (λ y b q. omega (arith, b q)) xs h.2))
        | inr below ↦
            let e : max x m ≡ m = omega arith in
            let P : ℕ → Type 0 = λ n. IsGreatest p (x ∷ xs) (Some n) in
            subst P (sym e) (Contains-there x m xs h.0, h.1, All-cons (λ y. p y ≡ true → y ≤ m) x xs (λ _. below) h.2)
      ]

  greatest-no : (x : ℕ) (xs : List ℕ) (o : Option ℕ) → p x ≡ false → IsGreatest p xs o → IsGreatest p (x ∷ xs) o
  greatest-no x xs None fails none = All-cons (λ y. p y ≡ false) x xs fails none
  greatest-no x xs (Some m) fails h =
      (Contains-there x m xs h.0, h.1, All-cons (λ y. p y ≡ true → y ≤ m) x xs (λ passes. absurd (false≢true (sym fails ∙ passes))) h.2)

  greatest-filter : (xs : List ℕ) → IsGreatest p xs (greatest_of (filter p xs))
  greatest-filter [] = All-nil (λ x. p x ≡ false)
  greatest-filter (x ∷ xs) =
      elim (p x) as (λ b. p x ≡ b → IsGreatest p (x ∷ xs) (greatest_of (cond b (x ∷ filter p xs) (filter p xs)))) [
        | true ↦ λ passes. greatest-yes x xs (greatest_of (filter p xs)) passes (greatest-filter xs)
        | false ↦ λ fails. greatest-no x xs (greatest_of (filter p xs)) fails (greatest-filter xs)
      ] refl

-- where the depth is 0, no span holds x
none-hold : (spans : List Interval) (x : ℕ) → depth spans x ≡ 0 → All (λ span. Holds span x → ⊥) spans
none-hold [] x e = All-nil (λ span. Holds span x → ⊥)
none-hold (s ∷ spans) x e =
    elim (holds x s) as (λ b. holds x s ≡ b → All (λ span. Holds span x → ⊥) (s ∷ spans)) [
      | true ↦ λ passes. absurd (omega (arith, count_by-yes (holds x) s spans passes))
      | false ↦ λ fails. All-cons (λ span. Holds span x → ⊥) s spans (λ h. absurd (false≢true (sym fails ∙ holds-from_Holds x s h))) (none-hold spans x (omega (arith, count_by-no (holds x) s spans fails)))
    ] refl

-- if each span that holds x holds y too, y is as deep
depth-le-depth : (spans : List Interval) (x y : ℕ) → All (λ span. Holds span x → Holds span y) spans → depth spans x ≤ depth spans y
depth-le-depth [] x y all = omega arith
depth-le-depth (s ∷ spans) x y all =
    let rest : depth spans x ≤ depth spans y = depth-le-depth spans x y (All-tail (λ span. Holds span x → Holds span y) s spans all) in
    elim (holds x s) as (λ b. holds x s ≡ b → depth (s ∷ spans) x ≤ depth (s ∷ spans) y) [
      | true ↦ λ passes. omega (arith, rest, count_by-yes (holds x) s spans passes, count_by-yes (holds y) s spans (holds-from_Holds y s (All-head (λ span. Holds span x → Holds span y) s spans all (Holds-from_holds x s passes))))
      | false ↦ λ fails.
          let grows : depth spans y ≤ depth (s ∷ spans) y =
          elim (holds y s) as (λ b. holds y s ≡ b → depth spans y ≤ depth (s ∷ spans) y) [
            | true ↦ λ e. omega (arith, count_by-yes (holds y) s spans e)
            | false ↦ λ e. omega (arith, count_by-no (holds y) s spans e)
          ] refl in
          omega (arith, rest, grows, count_by-no (holds x) s spans fails)
    ] refl

-- the last lower end at or before x, of the spans that hold x
abbrev LastLowerEnd : List Interval → ℕ → Type 0
LastLowerEnd spans x = (l : ℕ) × Contains (lower_ends spans) l × (l ≤ x) × All (λ span. Holds span x → span.lo ≤ l) spans

lower_end-found : (spans : List Interval) (x : ℕ) → (depth spans x ≡ 0) ⊎ LastLowerEnd spans x
lower_end-found [] x = inl (omega arith)
lower_end-found (s ∷ spans) x =
    elim (holds x s) as (λ b. holds x s ≡ b → (depth (s ∷ spans) x ≡ 0) ⊎ LastLowerEnd (s ∷ spans) x) [
      | false ↦ λ fails.
          let never : Holds s x → ⊥ = λ h. false≢true (sym fails ∙ holds-from_Holds x s h) in
          elim (lower_end-found spans x) [
            | inl none ↦ inl (omega (arith, none, count_by-no (holds x) s spans fails))
            | inr w ↦ inr (w.0, Contains-there s.lo w.0 (lower_ends spans) w.1, w.2, All-cons (λ span. Holds span x → span.lo ≤ w.0) s spans (λ h. absurd (never h)) w.3)
          ]
      | true ↦ λ passes.
          let here : Holds s x = Holds-from_holds x s passes in
          elim (lower_end-found spans x) [
            | inl none ↦ inr (s.lo, Contains-here s.lo (lower_ends spans), here.0, All-cons (λ span. Holds span x → span.lo ≤ s.lo) s spans (λ _. omega arith) (All-weaker (λ span. Holds span x → ⊥) (λ span. Holds span x → span.lo ≤ s.lo) (λ span never h. absurd (never h)) spans (none-hold spans x none)))
            | inr w ↦ elim (cases_lt w.0 s.lo) [
              | inl later ↦ inr (s.lo, Contains-here s.lo (lower_ends spans), here.0, All-cons (λ span. Holds span x → span.lo ≤ s.lo) s spans (λ _. omega arith) (All-weaker (λ span. Holds span x → span.lo ≤ w.0) (λ span. Holds span x → span.lo ≤ s.lo) (λ span b h. omega (arith, b h, later)) spans w.3))
              | inr earlier ↦ inr (w.0, Contains-there s.lo w.0 (lower_ends spans) w.1, w.2, All-cons (λ span. Holds span x → span.lo ≤ w.0) s spans (λ _. earlier) w.3)
            ]
          ]
    ] refl

-- the first upper end at or after x, of the spans that hold x
abbrev FirstUpperEnd : List Interval → ℕ → Type 0
FirstUpperEnd spans x = (u : ℕ) × Contains (upper_ends spans) u × (x ≤ u) × All (λ span. Holds span x → u ≤ span.hi) spans

upper_end-found : (spans : List Interval) (x : ℕ) → (depth spans x ≡ 0) ⊎ FirstUpperEnd spans x
upper_end-found [] x = inl (omega arith)
upper_end-found (s ∷ spans) x =
    elim (holds x s) as (λ b. holds x s ≡ b → (depth (s ∷ spans) x ≡ 0) ⊎ FirstUpperEnd (s ∷ spans) x) [
      | false ↦ λ fails.
          let never : Holds s x → ⊥ = λ h. false≢true (sym fails ∙ holds-from_Holds x s h) in
          elim (upper_end-found spans x) [
            | inl none ↦ inl (omega (arith, none, count_by-no (holds x) s spans fails))
            | inr w ↦ inr (w.0, Contains-there s.hi w.0 (upper_ends spans) w.1, w.2, All-cons (λ span. Holds span x → w.0 ≤ span.hi) s spans (λ h. absurd (never h)) w.3)
          ]
      | true ↦ λ passes.
          let here : Holds s x = Holds-from_holds x s passes in
          elim (upper_end-found spans x) [
            | inl none ↦ inr (s.hi, Contains-here s.hi (upper_ends spans), here.1, All-cons (λ span. Holds span x → s.hi ≤ span.hi) s spans (λ _. omega arith) (All-weaker (λ span. Holds span x → ⊥) (λ span. Holds span x → s.hi ≤ span.hi) (λ span never h. absurd (never h)) spans (none-hold spans x none)))
            | inr w ↦ elim (cases_lt s.hi w.0) [
              | inl earlier ↦ inr (s.hi, Contains-here s.hi (upper_ends spans), here.1, All-cons (λ span. Holds span x → s.hi ≤ span.hi) s spans (λ _. omega arith) (All-weaker (λ span. Holds span x → w.0 ≤ span.hi) (λ span. Holds span x → s.hi ≤ span.hi) (λ span b h. omega (arith, b h, earlier)) spans w.3))
              | inr later ↦ inr (w.0, Contains-there s.hi w.0 (upper_ends spans) w.1, w.2, All-cons (λ span. Holds span x → w.0 ≤ span.hi) s spans (λ _. later) w.3)
            ]
          ]
    ] refl

module _ (spans : List Interval) (f : ℕ) (valid : All IsInterval spans) (few : f < length spans) where
  deep_lower_end : (x : ℕ) → length spans - f ≤ depth spans x → (l : ℕ) × Contains (lower_ends spans) l × (l ≤ x) × (is_deep spans f l ≡ true)
  deep_lower_end x deep =
      elim (lower_end-found spans x) [
        | inl none ↦ absurd (omega arith)
        | inr w ↦
            let as_deep : depth spans x ≤ depth spans w.0 = depth-le-depth spans x w.0 (All-weaker (λ span. Holds span x → span.lo ≤ w.0) (λ span. Holds span x → Holds span w.0) (λ span b h. (b h, omega (arith, w.2, h.1))) spans w.3) in
            (w.0, w.1, w.2, le-leb (length spans - f) (depth spans w.0) (omega arith))
      ]

  deep_upper_end : (x : ℕ) → length spans - f ≤ depth spans x → (u : ℕ) × Contains (upper_ends spans) u × (x ≤ u) × (is_deep spans f u ≡ true)
  deep_upper_end x deep =
      elim (upper_end-found spans x) [
        | inl none ↦ absurd (omega arith)
        | inr w ↦
            let as_deep : depth spans x ≤ depth spans w.0 = depth-le-depth spans x w.0 (All-weaker (λ span. Holds span x → w.0 ≤ span.hi) (λ span. Holds span x → Holds span w.0) (λ span b h. (omega (arith, w.2, h.0), b h)) spans w.3) in
            (w.0, w.1, w.2, le-leb (length spans - f) (depth spans w.0) (omega arith))
      ]

  lower_ends-in_time : All (λ lo. lo ≤ max_time) (lower_ends spans)
  lower_ends-in_time = All-map (λ lo. lo ≤ max_time) (λ span. span.lo) spans (All-weaker IsInterval (λ span. span.lo ≤ max_time) (λ span v. omega (arith, v.ordered, v.in_time)) spans valid)

  upper_ends-in_time : All (λ hi. hi ≤ max_time) (upper_ends spans)
  upper_ends-in_time = All-map (λ hi. hi ≤ max_time) (λ span. span.hi) spans (All-weaker IsInterval (λ span. span.hi ≤ max_time) (λ span v. v.in_time) spans valid)

  -- what the slow search finds, from what its two halves find
  abbrev IsSlowAnswer : Option Interval → Type 0
  IsSlowAnswer o = MatchOption o (HasNoPossibleTime spans f) (λ i. IsFusion spans f i)

  answer-between : (low high : Option ℕ) → IsLeast (is_deep spans f) (lower_ends spans) low → IsGreatest (is_deep spans f) (upper_ends spans) high → IsSlowAnswer (between low high)
  answer-between None high none _ = λ x p.
      let w = deep_lower_end x (depth-from_possible spans f x p) in
      false≢true (sym (All-contains (λ l. is_deep spans f l ≡ false) (lower_ends spans) w.0 none w.1) ∙ w.3)
  answer-between (Some lo) None _ none = λ x p.
      let w = deep_upper_end x (depth-from_possible spans f x p) in
      false≢true (sym (All-contains (λ l. is_deep spans f l ≡ false) (upper_ends spans) w.0 none w.1) ∙ w.3)
  answer-between (Some lo) (Some hi) l g =
      let encloses : (x : ℕ) → length spans - f ≤ depth spans x → (lo ≤ x) × (x ≤ hi) = λ x deep.
      let low = deep_lower_end x deep in
      let high = deep_upper_end x deep in
      let low_le : lo ≤ low.0 = All-contains (λ y. is_deep spans f y ≡ true → lo ≤ y) (lower_ends spans) low.0 l.2 low.1 low.3 in
      let high_le : high.0 ≤ hi = All-contains (λ y. is_deep spans f y ≡ true → y ≤ hi) (upper_ends spans) high.0 g.2 high.1 high.3 in
      (omega (arith, low.2), omega (arith, high.2)) in
      IsFusion-from_ends spans f lo hi
      (All-contains (λ y. y ≤ max_time) (lower_ends spans) lo lower_ends-in_time l.0)
      (All-contains (λ y. y ≤ max_time) (upper_ends spans) hi upper_ends-in_time g.0)
      (leb-true (length spans - f) (depth spans lo) l.1) (leb-true (length spans - f) (depth spans hi) g.1) encloses

  slow_fusion-answers : IsSlowAnswer (slow_fusion spans f)
  slow_fusion-answers =
      answer-between (least_of (filter (is_deep spans f) (lower_ends spans))) (greatest_of (filter (is_deep spans f) (upper_ends spans)))
      (least-filter (is_deep spans f) (lower_ends spans)) (greatest-filter (is_deep spans f) (upper_ends spans))

  fusion-from_answer : (o : Option Interval) (i : Interval) → IsSlowAnswer o → o ≡ Some i → IsFusion spans f i
  fusion-from_answer None i h e = absurd (cc)
  fusion-from_answer (Some j) i h e = let same : j ≡ i = cc in subst (λ (k : Interval). IsFusion spans f k) same h

  answer-from_fusion : (o : Option Interval) (i : Interval) → IsSlowAnswer o → IsFusion spans f i → o ≡ Some i
  answer-from_fusion None i h m = absurd (h m.possible.0 m.possible.1)
  answer-from_fusion (Some j) i h m = ap Some (unique-IsFusion spans f j i h m)

  none-from_answer : (o : Option Interval) → IsSlowAnswer o → o ≡ None → HasNoPossibleTime spans f
  none-from_answer None h e = h
  none-from_answer (Some j) h e = absurd (cc)

  answer-from_none : (o : Option Interval) → IsSlowAnswer o → HasNoPossibleTime spans f → o ≡ None
  answer-from_none None h none = refl
  answer-from_none (Some j) h none = absurd (none h.possible.0 h.possible.1)

-- the slow search finds the fusion
pub fusion-found_slowly : (spans : List Interval) (f : ℕ) (i : Interval) → All IsInterval spans → f < length spans → IsFusion spans f i ↔ (slow_fusion spans f ≡ Some i)
fusion-found_slowly spans f i valid few = (
  answer-from_fusion spans f valid few (slow_fusion spans f) i (slow_fusion-answers spans f valid few),
  fusion-from_answer spans f valid few (slow_fusion spans f) i (slow_fusion-answers spans f valid few),
)

-- and finds none where there is none
pub none-found_slowly : (spans : List Interval) (f : ℕ) → All IsInterval spans → f < length spans → HasNoPossibleTime spans f ↔ (slow_fusion spans f ≡ None)
none-found_slowly spans f valid few = (
  answer-from_none spans f valid few (slow_fusion spans f) (slow_fusion-answers spans f valid few),
  none-from_answer spans f valid few (slow_fusion spans f) (slow_fusion-answers spans f valid few),
)
