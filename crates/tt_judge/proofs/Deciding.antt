-- What the tests of a history mean.
use Rattle.std.proofs.Common.{◌≡◌, ℕ, cond, ◌*◌, ◌<◌, ◌≤◌, List, length, get_or, sym, subst, arith, ◌∙◌}
use Rattle.std.specs.Prelude.{Bool, true, false, nat_lt, nat_le, count_by, ◌↔◌}
use Rattle.std.proofs.lemmas.Bool.{and_parts, and_from, ltb-true, leb-true, lt-ltb, le-leb, both_ways, false_from_ne_true, cond-true, cond-false}
use Rattle.std.proofs.lemmas.List.{get_or_default}
use Rattle.std.proofs.lemmas.List.Folds.{Any-from_list_any, list_any_at}
use Rattle.std.proofs.lemmas.List.Sums.{get_or-le-sum_by, sum_by-le}
use Rattle.tt_judge.specs.declared.history.Commit.{Commit}
use Rattle.tt_judge.specs.Consistency.{commit_at, Contradicts, IsViolated, IsConsistent, contradicts, is_violated, violations_of}

Contradicts-from_true : (earlier later : Commit) → contradicts later earlier ≡ true → Contradicts earlier later
Contradicts-from_true earlier later is =
    let parts = and_parts (nat_lt earlier.ended later.began) (nat_le later.stamp earlier.stamp) is in
    record { before = ltb-true earlier.ended later.began parts.0; stamps = leb-true later.stamp earlier.stamp parts.1 }

contradicts-true : (earlier later : Commit) → Contradicts earlier later → contradicts later earlier ≡ true
contradicts-true earlier later h =
    and_from (nat_lt earlier.ended later.began) (nat_le later.stamp earlier.stamp) (lt-ltb earlier.ended later.began h.before) (le-leb later.stamp earlier.stamp h.stamps)

module _ (history : List Commit) (later : Commit) where
  pub IsViolated-from_true : is_violated history later ≡ true → IsViolated history later
  IsViolated-from_true is =
      let none : Commit = record { began = 0; ended = 0; stamp = 0 } in
      let w = Any-from_list_any (contradicts later) history is in
      let same : w.1 ≡ commit_at history w.0 = sym w.3 ∙ get_or_default history w.0 w.1 none w.2 in
      (w.0, w.2, Contradicts-from_true (commit_at history w.0) later (subst (λ (c : Commit). contradicts later c ≡ true) same w.4))

  pub is_violated-true : IsViolated history later → is_violated history later ≡ true
  is_violated-true w =
      list_any_at (contradicts later) history w.0 (record { began = 0; ended = 0; stamp = 0 }) w.1 (contradicts-true (commit_at history w.0) later w.2)

  pub is_violated-false : (IsViolated history later → ⊥) → is_violated history later ≡ false
  is_violated-false none = false_from_ne_true (is_violated history later) (λ is. none (IsViolated-from_true is))

  pub not-IsViolated : is_violated history later ≡ false → IsViolated history later → ⊥
  not-IsViolated is w = both_ways (is_violated history later) is (is_violated-true w)

  pub is_violated-decides : (is_violated history later ≡ true) ↔ IsViolated history later
  is_violated-decides = (IsViolated-from_true, is_violated-true)

-- what a test adds to a count
abbrev pub tally : Bool → ℕ
tally b = cond b 1 0

-- nothing is counted where nothing passes
module _ {X : Type 0} (test : X → Bool) (xs : List X) where
  pub none_counted : (number : ℕ) (d : X) → number < length xs → count_by test xs ≡ 0 → test (get_or xs number d) ≡ true → ⊥
  none_counted number d inside zero is =
      let one : tally (test (get_or xs number d)) ≡ 1 = cond-true (test (get_or xs number d)) 1 0 is in
      omega (arith, one, get_or-le-sum_by (λ x. tally (test x)) xs number d inside)

  pub count_by-none : ((number : ℕ) (d : X) → number < length xs → test (get_or xs number d) ≡ false) → count_by test xs ≡ 0
  count_by-none none =
      let most : count_by test xs ≤ length xs * 0 = sum_by-le (λ x. tally (test x)) 0 xs (λ number d inside.
      let zero : tally (test (get_or xs number d)) ≡ 0 = cond-false (test (get_or xs number d)) 1 0 (none number d inside) in
      omega (arith, zero)) in
      omega (arith, most)

pub none-IsConsistent : (history : List Commit) → (violations_of history ≡ 0) ↔ IsConsistent history
none-IsConsistent history = (forth, back)
  where
    nobody : Commit
    nobody = record { began = 0; ended = 0; stamp = 0 }

    forth : violations_of history ≡ 0 → IsConsistent history
    forth zero number inside violated =
        none_counted (is_violated history) history number nobody inside zero (is_violated-true history (commit_at history number) violated)

    back : IsConsistent history → violations_of history ≡ 0
    back consistent = count_by-none (is_violated history) history (λ number d inside.
        let same : get_or history number d ≡ commit_at history number = get_or_default history number d (record { began = 0; ended = 0; stamp = 0 }) inside in
        subst (λ (c : Commit). is_violated history c ≡ false) (sym same) (is_violated-false history (commit_at history number) (consistent number inside)))
