-- Where a new stamp goes among stamps in order.
use Rattle.std.proofs.Common.{◌≡◌, ℕ, ◌-◌, ◌<◌, ◌≤◌, ◌==◌, ◌||◌, true, false, cond, List, ◌∷◌, length, get_or, Result, Ok, Err, IsOk, is_ok, IfSome, IfNone, ⊎_elim, sym, arith}
use Rattle.std.specs.List.{insert}
use Rattle.std.specs.List.Sorted.{IsNonDecreasing, IsBinarySearchResult}
use Rattle.std.specs.Ordering.{nat_cmp}
use Rattle.std.specs.Result.{result_err}
use Rattle.std.proofs.lemmas.Bool.{false≢true, eq-eqb, ne_eqb, cases_lt}
use Rattle.std.proofs.lemmas.List.{get_or_default}
use Rattle.std.proofs.lemmas.List.Elements.{All-from_get_or}
use Rattle.std.proofs.lemmas.List.Folds.{list_any_none, list_any_at}
use Rattle.std.proofs.lemmas.List.Sorted.{searched, IsNonDecreasingBy-insert, IsPermutation-insert, list_any-IsPermutation}
use Rattle.tt_stamp.specs.Book.{is_among, IsPlaceOf}

-- the stamps before this place are below the stamp, and all others above it
pub record IsGap (stamps : List ℕ) (stamp place : ℕ) : Type 0 where
  pub within : place ≤ length stamps
  pub below : (k : ℕ) → k < place → get_or stamps k 0 < stamp
  pub above : (k : ℕ) → place ≤ k → k < length stamps → stamp < get_or stamps k 0

differs : (stamps : List ℕ) (stamp place : ℕ) → IsGap stamps stamp place → (k : ℕ) → k < length stamps → (get_or stamps k 0 == stamp) ≡ false
differs stamps stamp place gap k h =
    ⊎_elim
    (λ (l : k < place). ne_eqb (get_or stamps k 0) stamp (λ e. let b = gap.below k l in omega (arith, b, e)))
    (λ (l : place ≤ k). ne_eqb (get_or stamps k 0) stamp (λ e. let a = gap.above k l h in omega (arith, a, e)))
    (cases_lt k place)

pub IsPlaceOf-gap : (stamps : List ℕ) (stamp place : ℕ) → IsNonDecreasing stamps → IsGap stamps stamp place → IsPlaceOf stamps stamp place
IsPlaceOf-gap stamps stamp place in_order gap = record {
  within = gap.within;
  new = list_any_none (λ s. s == stamp) stamps (All-from_get_or (λ s. (s == stamp) ≡ false) stamps 0 (differs stamps stamp place gap));
  in_order = IsNonDecreasingBy-insert (λ s. s) stamps place stamp in_order gap.within (λ k d l. let b = gap.below k l in omega (arith, b, get_or_default stamps k d 0 (omega (arith, l, gap.within)))) (λ k d l h. let a = gap.above k l h in omega (arith, a, get_or_default stamps k d 0 h));
}

-- one that is above the last goes to the end
pub IsPlaceOf-last : (stamps : List ℕ) (stamp end : ℕ) → IsNonDecreasing stamps → end ≡ length stamps → 0 < end → get_or stamps (end - 1) 0 < stamp → IsPlaceOf stamps stamp end
IsPlaceOf-last stamps stamp end in_order e some last =
    IsPlaceOf-gap stamps stamp end in_order (record {
      within = omega (arith, e);
      below = λ k l. let far = in_order k (end - 1) 0 (omega (arith, l)) (omega (arith, e, some)) in omega (arith, far, last);
      above = λ k l h. absurd (omega (arith, l, h, e));
    })

-- ---- what a search found
pub IsPlaceOf-searched : (stamps : List ℕ) (stamp : ℕ) (r : Result ℕ ℕ) → IsNonDecreasing stamps → IsBinarySearchResult (λ y. nat_cmp y stamp) stamps r → IfSome (result_err r) (λ place. IsPlaceOf stamps stamp place)
IsPlaceOf-searched stamps stamp (Ok i) in_order found = tt
IsPlaceOf-searched stamps stamp (Err i) in_order found =
    let gap = searched stamps stamp (Err i) found (λ i j l h. in_order i j 0 l h) in
    IsPlaceOf-gap stamps stamp i in_order (record { within = gap.0; below = gap.1; above = gap.2 })

pub is_among-searched : (stamps : List ℕ) (stamp : ℕ) (r : Result ℕ ℕ) → IsNonDecreasing stamps → IsBinarySearchResult (λ y. nat_cmp y stamp) stamps r → IfNone (result_err r) (is_among stamps stamp ≡ true)
is_among-searched stamps stamp (Ok i) in_order found =
    let at = searched stamps stamp (Ok i) found (λ i j l h. in_order i j 0 l h) in
    list_any_at (λ s. s == stamp) stamps i 0 at.0 (eq-eqb (get_or stamps i 0) stamp at.1)
is_among-searched stamps stamp (Err i) in_order found = tt

-- ---- what an insert leaves
pub is_among-insert : (stamps : List ℕ) (place stamp q : ℕ) → is_among (insert stamps place stamp) q ≡ ((stamp == q) || is_among stamps q)
is_among-insert stamps place stamp q =
    sym (list_any-IsPermutation (λ s. s == q) (stamp ∷ stamps) (insert stamps place stamp) (IsPermutation-insert stamps place stamp))

pub if_ok : {T E X : Type 0} (r : Result T E) (after before now : X) → IsOk r → now ≡ cond (is_ok r) after before → now ≡ after
if_ok (Ok x) after before now h e = e
if_ok (Err x) after before now h e = absurd (false≢true h)
