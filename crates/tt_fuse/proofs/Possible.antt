-- A time is possible exactly where enough spans hold it.
use Rattle.std.proofs.Common.{◌≡◌, ℕ, zero, suc, ◌+◌, ◌-◌, ◌<◌, ◌≤◌, Bool, true, false, not, List, [], ◌∷◌, length, map, ◌∙◌, ap, refl, arith}
use Rattle.std.specs.Prelude.{nat_le}
use Rattle.std.specs.List.{count_by, HoldsAt}
use Rattle.std.proofs.lemmas.Bool.{leb-true, leb-false, le-leb, and_parts, and_from, not-false, not_from_true, not_from_false}
use Rattle.std.proofs.lemmas.List.{length-map}
use Rattle.tt_span.specs.Time.{max_time}
use Rattle.tt_span.specs.Interval.{Interval, Holds, Within}
use Rattle.tt_fuse.specs.Fusion.{IsOutside, IsPossibleTime, IsRightFor, IsFusion}
use Rattle.tt_fuse.specs.Depth.{holds, depth}
use Rattle.tt_fuse.proofs.Counting.{count_by-yes, count_by-no}

-- the flags of a set, as a test
abbrev pub flag_of : Bool → Bool
flag_of flag = flag

pub holds-from_Holds : (x : ℕ) (span : Interval) → Holds span x → holds x span ≡ true
holds-from_Holds x span h = and_from (nat_le span.lo x) (nat_le x span.hi) (le-leb span.lo x h.0) (le-leb x span.hi h.1)

pub Holds-from_holds : (x : ℕ) (span : Interval) → holds x span ≡ true → Holds span x
Holds-from_holds x span h =
    let parts = and_parts (nat_le span.lo x) (nat_le x span.hi) h in
    (leb-true span.lo x parts.0, leb-true x span.hi parts.1)

-- where every source outside a set holds x, all spans but those of the set do
pub depth-from_set : (spans : List Interval) (set : List Bool) (x : ℕ) → length set ≡ length spans → ((k : ℕ) → IsOutside set k → HoldsAt (λ span. Holds span x) spans k) → length spans ≤ depth spans x + count_by flag_of set
depth-from_set [] set x e h = omega arith
depth-from_set (s ∷ spans) [] x e h = absurd (omega arith)
depth-from_set (s ∷ spans) (true ∷ set) x e h =
    let rest : length spans ≤ depth spans x + count_by flag_of set = depth-from_set spans set x (omega arith) (λ k o. h (suc k) (omega arith, o.1)) in
    let more : depth spans x ≤ depth (s ∷ spans) x = depth-le-cons s spans x in
    omega (arith, count_by-yes flag_of true set refl)
  where
    depth-le-cons : (s : Interval) (spans : List Interval) (x : ℕ) → depth spans x ≤ depth (s ∷ spans) x
    depth-le-cons s spans x =
        elim (holds x s) as (λ b. holds x s ≡ b → depth spans x ≤ depth (s ∷ spans) x) [
          | true ↦ λ e. omega (arith, count_by-yes (holds x) s spans e)
          | false ↦ λ e. omega (arith, count_by-no (holds x) s spans e)
        ] refl
depth-from_set (s ∷ spans) (false ∷ set) x e h =
    let rest : length spans ≤ depth spans x + count_by flag_of set = depth-from_set spans set x (omega arith) (λ k o. h (suc k) (omega arith, o.1)) in
    let here : holds x s ≡ true = holds-from_Holds x s (h 0 (omega arith, refl) s) in
    omega (arith, count_by-no flag_of false set refl, count_by-yes (holds x) s spans here)

-- the sources whose span does not hold x
abbrev pub set_against : List Interval → ℕ → List Bool
set_against spans x = map (λ span. not (holds x span)) spans

pub count_by-set_against : (spans : List Interval) (x : ℕ) → depth spans x + count_by flag_of (set_against spans x) ≡ length spans
count_by-set_against [] x = omega arith
count_by-set_against (s ∷ spans) x =
    let rest : depth spans x + count_by flag_of (set_against spans x) ≡ length spans = count_by-set_against spans x in
    elim (holds x s) as (λ b. holds x s ≡ b → depth (s ∷ spans) x + count_by flag_of (set_against (s ∷ spans) x) ≡ length (s ∷ spans)) [
      | true ↦ λ e. omega (arith, count_by-yes (holds x) s spans e, count_by-no flag_of (not (holds x s)) (set_against spans x) (not_from_true (holds x s) e))
      | false ↦ λ e. omega (arith, count_by-no (holds x) s spans e, count_by-yes flag_of (not (holds x s)) (set_against spans x) (not_from_false (holds x s) e))
    ] refl

pub outside-set_against : (spans : List Interval) (x k : ℕ) → IsOutside (set_against spans x) k → HoldsAt (λ span. Holds span x) spans k
outside-set_against [] x k o = absurd (omega (arith, o.0))
outside-set_against (s ∷ spans) x zero o = λ d. Holds-from_holds x s (not-false (holds x s) o.1)
outside-set_against (s ∷ spans) x (suc k) o = outside-set_against spans x k (omega (arith, o.0), o.1)

pub depth-from_possible : (spans : List Interval) (f x : ℕ) → IsPossibleTime spans f x → length spans - f ≤ depth spans x
depth-from_possible spans f x p =
    let few : count_by flag_of p.wrong ≤ f = p.few_wrong.few in
    let enough : length spans ≤ depth spans x + count_by flag_of p.wrong = depth-from_set spans p.wrong x p.few_wrong.one_flag_each p.others_hold in
    omega arith

pub possible-from_depth : (spans : List Interval) (f x : ℕ) → x ≤ max_time → length spans - f ≤ depth spans x → IsPossibleTime spans f x
possible-from_depth spans f x in_time enough =
    let all : depth spans x + count_by flag_of (set_against spans x) ≡ length spans = count_by-set_against spans x in
    record {
      in_time = in_time;
      wrong = set_against spans x;
      few_wrong = record { one_flag_each = length-map spans (λ span. not (holds x span)); few = omega arith };
      others_hold = outside-set_against spans x;
    }

-- both ends of a fusion are possible
pub lo-IsFusion : (spans : List Interval) (f : ℕ) (i : Interval) → IsFusion spans f i → length spans - f ≤ depth spans i.lo
lo-IsFusion spans f i m =
    elim (nat_le (length spans - f) (depth spans i.lo)) as (λ b. nat_le (length spans - f) (depth spans i.lo) ≡ b → length spans - f ≤ depth spans i.lo) [
      | true ↦ λ e. leb-true (length spans - f) (depth spans i.lo) e
      | false ↦ λ e.
          let not_deep : depth spans i.lo < length spans - f = leb-false (length spans - f) (depth spans i.lo) e in
          let j : Interval = record { lo = i.lo + 1; hi = i.hi } in
          let right : IsRightFor spans f j = λ x p.
          let inside : Holds i x = m.right x p in
          let deep : length spans - f ≤ depth spans x = depth-from_possible spans f x p in
          let apart : x ≡ i.lo → ⊥ = λ e'. omega (arith, ap (depth spans) e') in
          (omega (arith, inside.0), inside.1) in
          let within : Within i j = m.least j right in
          absurd (omega (arith, within.0))
    ] refl

pub hi-IsFusion : (spans : List Interval) (f : ℕ) (i : Interval) → IsFusion spans f i → length spans - f ≤ depth spans i.hi
hi-IsFusion spans f i m =
    elim (nat_le (length spans - f) (depth spans i.hi)) as (λ b. nat_le (length spans - f) (depth spans i.hi) ≡ b → length spans - f ≤ depth spans i.hi) [
      | true ↦ λ e. leb-true (length spans - f) (depth spans i.hi) e
      | false ↦ λ e.
          let not_deep : depth spans i.hi < length spans - f = leb-false (length spans - f) (depth spans i.hi) e in
          let j : Interval = record { lo = i.lo; hi = i.hi - 1 } in
          let below : (x : ℕ) → IsPossibleTime spans f x → x < i.hi = λ x p.
          let inside : Holds i x = m.right x p in
          let deep : length spans - f ≤ depth spans x = depth-from_possible spans f x p in
          let apart : x ≡ i.hi → ⊥ = λ e'. omega (arith, ap (depth spans) e') in
          omega (arith, inside.1) in
          let right : IsRightFor spans f j = λ x p. ((m.right x p).0, omega (arith, below x p)) in
          let within : Within i j = m.least j right in
          absurd (omega (arith, within.1, below m.possible.0 m.possible.1))
    ] refl

-- the fusion is what lies between two possible times that enclose every possible time
pub IsFusion-from_ends : (spans : List Interval) (f lo hi : ℕ) → lo ≤ max_time → hi ≤ max_time → length spans - f ≤ depth spans lo → length spans - f ≤ depth spans hi → ((x : ℕ) → length spans - f ≤ depth spans x → (lo ≤ x) × (x ≤ hi)) → IsFusion spans f (record { lo = lo; hi = hi })
IsFusion-from_ends spans f lo hi lo_in_time hi_in_time lo_deep hi_deep encloses =
    let lo_possible : IsPossibleTime spans f lo = possible-from_depth spans f lo lo_in_time lo_deep in
    let hi_possible : IsPossibleTime spans f hi = possible-from_depth spans f hi hi_in_time hi_deep in
    record {
      interval = record { ordered = (encloses lo lo_deep).1; in_time = hi_in_time };
      possible = (lo, lo_possible);
      right = λ x p. encloses x (depth-from_possible spans f x p);
      least = λ j right. ((right lo lo_possible).0, (right hi hi_possible).1);
    }

-- two fusions of the same spans are the same
pub unique-IsFusion : (spans : List Interval) (f : ℕ) (i j : Interval) → IsFusion spans f i → IsFusion spans f j → i ≡ j
unique-IsFusion spans f i j m m' =
    let one : Within i j = m.least j m'.right in
    let other : Within j i = m'.least i m.right in
    let lo_same : i.lo ≡ j.lo = omega (arith, one.0, other.0) in
    let hi_same : i.hi ≡ j.hi = omega (arith, one.1, other.1) in
    let from_ends : ℕ → ℕ → Interval = λ lo hi. record { lo = lo; hi = hi } in
    ap (λ lo. from_ends lo i.hi) lo_same ∙ ap (λ hi. from_ends j.lo hi) hi_same
