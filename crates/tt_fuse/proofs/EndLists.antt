-- Lower and upper ends in ascending order, and the depth that they show.
use Rattle.std.proofs.Common.{◌≡◌, ℕ, ◌+◌, ◌-◌, ◌<◌, ◌≤◌, inl, inr, Bool, true, false, cond, List, [], ◌∷◌, length, get_or, drop, take, sym, ◌∙◌, ap, subst, arith, get_or-drop, length-drop}
use Rattle.std.specs.Prelude.{nat_le, nat_lt, Option, Some, None, Result, Ok, Err, IsOk, IfOk, MatchOption, ◌↔◌}
use Rattle.std.specs.Result.{result_ok}
use Rattle.std.specs.List.{count_by, All}
use Rattle.std.proofs.lemmas.Bool.{le-leb, lt-leb, lt-ltb, le-ltb, cases_lt, false≢true, and_left, and_right, and_from}
use Rattle.std.proofs.lemmas.List.{length-map, get_or_default, take_rest}
use Rattle.std.proofs.lemmas.List.Elements.{All-head, All-tail, All-get_or, All-map, All-weaker}
use Rattle.std.proofs.lemmas.List.Sorted.{sum_by-IsPermutation, length_permutation, All-permutation}
use Rattle.std.proofs.lemmas.List.Sums.{count_by-le-length}
use Rattle.tt_span.specs.Time.{max_time}
use Rattle.tt_span.specs.Interval.{Interval, IsInterval}
use Rattle.tt_fuse.specs.Fusion.{IsFusion, HasNoPossibleTime}
use Rattle.tt_fuse.specs.Depth.{holds, depth, lower_ends, upper_ends}
use Rattle.tt_fuse.specs.Ends.{EndLists, AreInOrder, AreEndsOf}
use Rattle.tt_fuse.specs.Pairs.{IsOrderedAt, AreFirstAndLast, IsFound}
use Rattle.tt_fuse.proofs.Counting.{count_by-yes, count_by-no, count_by-le-first, count_by-above}
use Rattle.tt_fuse.proofs.Possible.{depth-from_possible, IsFusion-from_ends}

-- whether a span has begun at x
abbrev pub has_begun : ℕ → ℕ → Bool
has_begun x lo = nat_lt lo (x + 1)

begun-yes : (x lo : ℕ) → lo ≤ x → has_begun x lo ≡ true
begun-yes x lo h = lt-ltb lo (x + 1) (omega arith)

begun-no : (x lo : ℕ) → x < lo → has_begun x lo ≡ false
begun-no x lo h = le-ltb lo (x + 1) (omega arith)

-- whether a span has ended before x
abbrev pub has_ended : ℕ → ℕ → Bool
has_ended x hi = nat_lt hi x

-- the spans that hold x are those that have begun and not ended
pub depth-ends : (spans : List Interval) (x : ℕ) → All IsInterval spans → depth spans x + count_by (has_ended x) (upper_ends spans) ≡ count_by (has_begun x) (lower_ends spans)
depth-ends [] x all = omega arith
depth-ends (s ∷ spans) x all =
    let valid : IsInterval s = All-head IsInterval s spans all in
    let rest : depth spans x + count_by (has_ended x) (upper_ends spans) ≡ count_by (has_begun x) (lower_ends spans) = depth-ends spans x (All-tail IsInterval s spans all) in
    let order : s.lo ≤ s.hi = valid.ordered in
    elim (cases_lt x s.lo) [
      | inl before ↦ omega (arith, rest, count_by-no (holds x) s spans (and_left (nat_le s.lo x) (nat_le x s.hi) (lt-leb s.lo x before)), count_by-no (has_ended x) s.hi (upper_ends spans) (le-ltb s.hi x (omega arith)), count_by-no (has_begun x) s.lo (lower_ends spans) (begun-no x s.lo before))
      | inr begun ↦
          elim (cases_lt s.hi x) [
            | inl ended ↦ omega (arith, rest, count_by-no (holds x) s spans (and_right (nat_le s.lo x) (nat_le x s.hi) (lt-leb x s.hi ended)), count_by-yes (has_ended x) s.hi (upper_ends spans) (lt-ltb s.hi x ended), count_by-yes (has_begun x) s.lo (lower_ends spans) (begun-yes x s.lo begun))
            | inr lasts ↦ omega (arith, rest, count_by-yes (holds x) s spans (and_from (nat_le s.lo x) (nat_le x s.hi) (le-leb s.lo x begun) (le-leb x s.hi lasts)), count_by-no (has_ended x) s.hi (upper_ends spans) (le-ltb s.hi x lasts), count_by-yes (has_begun x) s.lo (lower_ends spans) (begun-yes x s.lo begun))
          ]
    ]

-- how many ends there are, and what depth they show
module _ (spans : List Interval) (ends : EndLists) (of : AreEndsOf spans ends) where
  pub length-lows_of : length ends.lows ≡ length spans
  length-lows_of = length_permutation (lower_ends spans) ends.lows of.lows ∙ length-map spans (λ span. span.lo)

  pub length-highs_of : length ends.highs ≡ length spans
  length-highs_of = length_permutation (upper_ends spans) ends.highs of.highs ∙ length-map spans (λ span. span.hi)

  pub depth-ends_of : (x : ℕ) → depth spans x + count_by (has_ended x) ends.highs ≡ count_by (has_begun x) ends.lows
  depth-ends_of x =
      let begun : count_by (has_begun x) ends.lows ≡ count_by (has_begun x) (lower_ends spans) = sum_by-IsPermutation (λ lo. cond (has_begun x lo) 1 0) (lower_ends spans) ends.lows of.lows in
      let ended : count_by (has_ended x) ends.highs ≡ count_by (has_ended x) (upper_ends spans) = sum_by-IsPermutation (λ hi. cond (has_ended x hi) 1 0) (upper_ends spans) ends.highs of.highs in
      omega (arith, begun, ended, depth-ends spans x of.intervals)

  -- no upper end is past the greatest time
  pub highs_of-in_time : All (λ hi. hi ≤ max_time) ends.highs
  highs_of-in_time =
      let all : All (λ hi. hi ≤ max_time) (upper_ends spans) = All-map (λ hi. hi ≤ max_time) (λ span. span.hi) spans (All-weaker IsInterval (λ span. span.hi ≤ max_time) (λ span valid. valid.in_time) spans of.intervals) in
      All-permutation (λ hi. hi ≤ max_time) (upper_ends spans) ends.highs of.highs all

-- the ends of some spans, where fewer than all of the sources may be wrong
pub record AreSwept (spans : List Interval) (f : ℕ) (lows highs : List ℕ) : Type 0 where
  pub few : f < length spans
  pub of : AreEndsOf spans (record { lows = lows; highs = highs })
  pub ordered : AreInOrder (record { lows = lows; highs = highs })

-- of a value that shows these ends
pub AreSwept-of : (spans : List Interval) (f : ℕ) (inside shown : EndLists) → inside ≡ shown → AreInOrder inside → AreEndsOf spans shown → f < length shown.lows → AreSwept spans f inside.lows inside.highs
AreSwept-of spans f inside shown same ordered of few = record {
  few = omega (arith, length-lows_of spans shown of);
  of = subst (λ (e : EndLists). AreEndsOf spans e) (sym same) of;
  ordered = ordered;
}

module _ (spans : List Interval) (f : ℕ) (lows highs : List ℕ) (ends : AreSwept spans f lows highs) where
  length-lows : length lows ≡ length spans
  length-lows = length-lows_of spans (record { lows = lows; highs = highs }) ends.of

  length-highs : length highs ≡ length spans
  length-highs = length-highs_of spans (record { lows = lows; highs = highs }) ends.of

  depth-sorted : (x : ℕ) → depth spans x + count_by (has_ended x) highs ≡ count_by (has_begun x) lows
  depth-sorted x = depth-ends_of spans (record { lows = lows; highs = highs }) ends.of x

  -- the lower end that is as far beyond the k-th as there are spans but f
  abbrev pub start_at : ℕ → ℕ
  start_at k = get_or lows (length spans - f - 1 + k) 0

  -- between such a lower end and the upper end beside it each time is deep enough
  deep-between : (k x : ℕ) → k ≤ f → start_at k ≤ x → x ≤ get_or highs k 0 → length spans - f ≤ depth spans x
  deep-between k x k_few begun lasts =
      let few : f < length spans = ends.few in
      let last : ℕ = length spans - f - 1 + k in
      let last_in : last < length lows = omega (arith, length-lows) in
      let k_in : k < length highs = omega (arith, length-highs) in
      let many : last < count_by (has_begun x) lows = count_by-above (has_begun x) lows last last_in (λ j below d. begun-yes x (get_or lows j d) (omega (arith, ends.ordered.lows_ascend j last d below last_in, get_or_default lows last d 0 last_in))) in
      let not_many : count_by (has_ended x) highs ≤ k = count_by-le-first (has_ended x) highs k (λ j from j_in d. le-ltb (get_or highs j d) x (omega (arith, ends.ordered.highs_ascend k j d from j_in, get_or_default highs k d 0 k_in))) in
      omega (arith, many, not_many, depth-sorted x)

  -- each time that is deep enough lies between such ends
  between-deep : (x : ℕ) → length spans - f ≤ depth spans x → (k : ℕ) × (k ≤ f) × (start_at k ≤ x) × (x ≤ get_or highs k 0)
  between-deep x deep =
      let few : f < length spans = ends.few in
      let k : ℕ = count_by (has_ended x) highs in
      let k_few : k ≤ f = omega (arith, depth-sorted x, count_by-le-length (has_begun x) lows, length-lows) in
      let last : ℕ = length spans - f - 1 + k in
      let last_in : last < length lows = omega (arith, length-lows) in
      let k_in : k < length highs = omega (arith, length-highs) in
      let begun : start_at k ≤ x =
      elim (cases_lt x (start_at k)) [
        | inr h ↦ h
        | inl h ↦
            let not_many : count_by (has_begun x) lows ≤ last = count_by-le-first (has_begun x) lows last (λ j from j_in d. begun-no x (get_or lows j d) (omega (arith, h, ends.ordered.lows_ascend last j d from j_in, get_or_default lows last d 0 last_in))) in
            absurd (omega (arith, not_many, depth-sorted x))
      ] in
      let lasts : x ≤ get_or highs k 0 =
      elim (cases_lt (get_or highs k 0) x) [
        | inr h ↦ h
        | inl h ↦
            let many : k < count_by (has_ended x) highs = count_by-above (has_ended x) highs k k_in (λ j below d. lt-ltb (get_or highs j d) x (omega (arith, h, ends.ordered.highs_ascend j k d below k_in, get_or_default highs k d 0 k_in))) in
            absurd (omega arith)
      ] in
      (k, k_few, begun, lasts)

  -- no upper end is past the greatest time
  highs-in_time : (k : ℕ) → k < length highs → get_or highs k 0 ≤ max_time
  highs-in_time k k_in = All-get_or (λ hi. hi ≤ max_time) highs k 0 k_in (highs_of-in_time spans (record { lows = lows; highs = highs }) ends.of)

  -- the lower ends that are looked at, beside the upper ends
  abbrev pub starts : List ℕ
  starts = drop (length spans - f - 1) lows

  pub start-is : (k : ℕ) → get_or starts k 0 ≡ start_at k
  start-is k = get_or-drop (length spans - f - 1) lows k 0

  pub length-starts : length starts ≡ f + 1
  length-starts =
      let few : f < length spans = ends.few in
      omega (arith, length-drop (length spans - f - 1) lows, length-lows)

  pub fusion-found : (lo hi : ℕ) → AreFirstAndLast starts highs (length starts) lo hi → IsFusion spans f (record { lo = lo; hi = hi })
  fusion-found lo hi found =
      let few : f < length spans = ends.few in
      let size : length starts ≡ f + 1 = length-starts in
      let first_few : found.first ≤ f = omega (arith, found.first_below) in
      let last_few : found.last ≤ f = omega (arith, found.last_below) in
      let lo_is : lo ≡ start_at found.first = found.lo_is ∙ start-is found.first in
      let hi_is : hi ≡ get_or highs found.last 0 = found.hi_is in
      let first_ordered : start_at found.first ≤ get_or highs found.first 0 = omega (arith, found.first_ordered, start-is found.first) in
      let last_ordered : start_at found.last ≤ get_or highs found.last 0 = omega (arith, found.last_ordered, start-is found.last) in
      let lo_deep : length spans - f ≤ depth spans lo = deep-between found.first lo first_few (omega arith) (omega arith) in
      let hi_deep : length spans - f ≤ depth spans hi = deep-between found.last hi last_few (omega arith) (omega arith) in
      let first_in : found.first < length highs = omega (arith, length-highs) in
      let last_in : found.last < length highs = omega (arith, length-highs) in
      let encloses : (x : ℕ) → length spans - f ≤ depth spans x → (lo ≤ x) × (x ≤ hi) = λ x deep.
      let w = between-deep x deep in
      let k : ℕ = w.0 in
      let k_few : k ≤ f = w.1 in
      let k_ordered : IsOrderedAt starts highs k = omega (arith, w.2, w.3, start-is k) in
      let from_first : found.first ≤ k = elim (cases_lt k found.first) [ inr h ↦ h | inl h ↦ absurd (found.none_before k h k_ordered) ] in
      let to_last : k ≤ found.last = elim (cases_lt found.last k) [ inr h ↦ h | inl h ↦ absurd (found.none_after k h (omega arith) k_ordered) ] in
      let lows_up : start_at found.first ≤ start_at k = ends.ordered.lows_ascend (length spans - f - 1 + found.first) (length spans - f - 1 + k) 0 (omega arith) (omega (arith, length-lows)) in
      let highs_up : get_or highs k 0 ≤ get_or highs found.last 0 = ends.ordered.highs_ascend k found.last 0 to_last last_in in
      (omega (arith, w.2), omega (arith, w.3)) in
      IsFusion-from_ends spans f lo hi (omega (arith, highs-in_time found.first first_in)) (omega (arith, highs-in_time found.last last_in)) lo_deep hi_deep encloses

  none-found : ((k : ℕ) → k < length starts → IsOrderedAt starts highs k → ⊥) → HasNoPossibleTime spans f
  none-found none x p =
      let w = between-deep x (depth-from_possible spans f x p) in
      none w.0 (omega (arith, w.1, length-starts)) (omega (arith, w.2, w.3, start-is w.0))

  -- what a look at the pairs finds is the fusion
  pub fusion-from_found : (seen : List ℕ) (o : Option (ℕ × ℕ)) → seen ≡ starts → IsFound seen highs (length seen) o → MatchOption o (HasNoPossibleTime spans f) (λ r. IsFusion spans f (record { lo = r.0; hi = r.1 }))
  fusion-from_found seen None same h = none-found (subst (λ (xs : List ℕ). (k : ℕ) → k < length xs → IsOrderedAt xs highs k → ⊥) same h)
  fusion-from_found seen (Some r) same h = fusion-found r.0 r.1 (subst (λ (xs : List ℕ). AreFirstAndLast xs highs (length xs) r.0 r.1) same h)

-- the same of slices that show the ends
pub fusion-from_slices : (spans : List Interval) (f : ℕ) (lows highs low_slice high_slice : List ℕ) (count : ℕ) → count ≡ length lows → AreSwept spans f lows highs → low_slice ≡ lows → high_slice ≡ highs → (o : Option (ℕ × ℕ)) → let first = count - f - 1 in let seen = take (length low_slice - first) (drop first low_slice) in IsFound seen high_slice (length seen) o → MatchOption o (HasNoPossibleTime spans f) (λ r. IsFusion spans f (record { lo = r.0; hi = r.1 }))
fusion-from_slices spans f lows highs low_slice high_slice count counted ends low_same high_same o found =
    let first : ℕ = count - f - 1 in
    let shown : AreSwept spans f lows high_slice = subst (λ (xs : List ℕ). AreSwept spans f lows xs) (sym high_same) ends in
    let as_far : first ≡ length spans - f - 1 = ap (λ n. n - f - 1) (counted ∙ length-lows spans f lows highs ends) in
    let seen_same = take_rest low_slice first ∙ ap (drop first) low_same ∙ ap (λ k. drop k lows) as_far in
    fusion-from_found spans f lows high_slice shown (take (length low_slice - first) (drop first low_slice)) o seen_same found

-- a span that is made of the ends of a fusion is the fusion
pub fusion-from_new : {E : Type 0} (spans : List Interval) (f lo hi : ℕ) (r : Result Interval E) → IsFusion spans f (record { lo = lo; hi = hi }) → IsOk r ↔ ((lo ≤ hi) × (hi ≤ max_time)) → IfOk r (λ s. s ≡ record { lo = lo; hi = hi }) → MatchOption (result_ok r) (HasNoPossibleTime spans f) (λ s. IsFusion spans f s)
fusion-from_new spans f lo hi (Ok s) m taken value = subst (λ (i : Interval). IsFusion spans f i) (sym value) m
fusion-from_new spans f lo hi (Err e) m taken value =
    absurd (false≢true (taken.1 (m.interval.ordered, m.interval.in_time)))
