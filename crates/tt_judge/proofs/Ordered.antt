-- The order of a history by one of the commits' times.
use Rattle.std.proofs.Common.{◌≡◌, ℕ, zero, suc, ◌+◌, ◌<◌, ◌≤◌, inl, inr, List, [], ◌∷◌, ◌++◌, length, get_or, take, refl, sym, subst, ap, arith, ◌∙◌, add-one, Ordering, Less, Equal}
use Rattle.std.specs.Prelude.{Bool, false, count_by, IsPermutation, IsSorted, All}
use Rattle.std.specs.Cmp.{IsTotalOrder}
use Rattle.std.specs.Ordering.{is_lt, nat_cmp, ordering_then, on, then_cmp}
use Rattle.std.proofs.lemmas.Bool.{cases_lt, cases_order, cond-true, cond-false, lt-ltb, le-ltb, eq-eqb, true≢false}
use Rattle.std.proofs.lemmas.Cmp.{nat_cmp_total, on_total, then_total}
use Rattle.std.proofs.lemmas.List.{get_or_default, take_all, length_push, get_or_append_left, get_or_push}
use Rattle.std.proofs.lemmas.List.Elements.{All-get_or, Contains-get_or}
use Rattle.std.proofs.lemmas.List.Sorted.{ranks_by, sorted_far, length_permutation, All-permutation, Contains-permutation, sum_by-IsPermutation}
use Rattle.std.proofs.lemmas.List.Sums.{sum_by_more}
use Rattle.tt_judge.specs.declared.history.Commit.{Commit}
use Rattle.tt_judge.specs.declared.order.Moment.{Moment}
use Rattle.tt_judge.specs.Consistency.{commit_at, ComesFirst}
use Rattle.tt_judge.specs.Order.{time_of, entry_at, IsOrderOf}
use Rattle.tt_judge.proofs.Deciding.{tally}

-- the first entries of the times of a history, in the order of the numbers
pub record AreTimes (moment : Moment) (history : List Commit) (count : ℕ) (entries : List (ℕ × ℕ)) : Type 0 where
  pub many : length entries ≡ count
  pub named : (place : ℕ) → place < count → entry_at entries place ≡ (time_of moment (commit_at history place), place)

-- one entry more
pub AreTimes-push : (moment : Moment) (history : List Commit) (count time : ℕ) (entries : List (ℕ × ℕ)) → AreTimes moment history count entries →
    time ≡ time_of moment (commit_at history count) → AreTimes moment history (count + 1) (entries ++ (time, count) ∷ [])
AreTimes-push moment history count time entries times is = record {
  many = omega (arith, length_push entries (time, count), times.many);
  named = λ place inside. elim (cases_lt place count) [
    | inl before ↦
        let within : place < length entries = omega (arith, times.many) in
        get_or_append_left entries ((time, count) ∷ []) (0, 0) place within ∙ times.named place before
    | inr here ↦
        let same : place ≡ count = omega arith in
        let last : entry_at (entries ++ (time, count) ∷ []) count ≡ (time, count) = get_or_push entries (time, count) (0, 0) count times.many in
        subst (λ (n : ℕ). entry_at (entries ++ (time, count) ∷ []) n ≡ (time_of moment (commit_at history n), n)) (sym same)
        (last ∙ ap (λ (t : ℕ). (t, count)) is)
  ];
}

abbrev pair_cmp : ℕ × ℕ → ℕ × ℕ → Ordering
pair_cmp = then_cmp (on (λ (p : ℕ × ℕ). p.0) nat_cmp) (on (λ (p : ℕ × ℕ). p.1) nat_cmp)

pair_cmp_total : IsTotalOrder pair_cmp
pair_cmp_total = then_total (on_total (λ (p : ℕ × ℕ). p.0) nat_cmp_total) (on_total (λ (p : ℕ × ℕ). p.1) nat_cmp_total)

pub nat_cmp-less : (a b : ℕ) → a < b → nat_cmp a b ≡ Less
nat_cmp-less a b h = cond-true _ _ _ (lt-ltb a b h)

pub nat_cmp-equal : (a b : ℕ) → a ≡ b → nat_cmp a b ≡ Equal
nat_cmp-equal a b h = cond-false _ _ _ (le-ltb a b (omega arith)) ∙ cond-true _ _ _ (eq-eqb a b h)

-- what a sort says of two entries
ComesFirst-from_cmp : (a b c d : ℕ) → is_lt (ordering_then (nat_cmp c a) (nat_cmp d b)) ≡ false → ComesFirst a b c d
ComesFirst-from_cmp a b c d h =
    elim (cases_order c a) [
      | inl tie ↦
          let second : is_lt (nat_cmp d b) ≡ false = subst (λ (o : Ordering). is_lt (ordering_then o (nat_cmp d b)) ≡ false) (nat_cmp-equal c a tie) h in
          record {
            keys = omega arith;
            ties = λ _. elim (cases_order d b) [
              | inl same ↦ omega arith
              | inr other ↦ elim other [
                | inl less ↦ absurd (true≢false (subst (λ (o : Ordering). is_lt o ≡ false) (nat_cmp-less d b less) second))
                | inr more ↦ omega arith
              ]
            ];
          }
      | inr other ↦ elim other [
        | inl less ↦ absurd (true≢false (subst (λ (o : Ordering). is_lt (ordering_then o (nat_cmp d b)) ≡ false) (nat_cmp-less c a less) h))
        | inr more ↦ record { keys = omega arith; ties = λ same. absurd (omega arith) }
      ]
    ]

module _ (moment : Moment) (history : List Commit) (entries order : List (ℕ × ℕ)) (times : AreTimes moment history (length history) entries) (moved : IsPermutation entries order) where
  abbrev IsEntry : ℕ × ℕ → Type 0
  IsEntry entry = (entry.1 < length history) × (entry.0 ≡ time_of moment (commit_at history entry.1))

  entries_are : All IsEntry entries
  entries_are = λ place d inside.
      let here : place < length history = omega (arith, times.many) in
      let same : get_or entries place d ≡ (time_of moment (commit_at history place), place) = get_or_default entries place d (0, 0) inside ∙ times.named place here in
      subst IsEntry (sym same) (here, refl)

  order_are : (place : ℕ) → place < length order → IsEntry (entry_at order place)
  order_are place inside = All-get_or IsEntry order place (0, 0) inside (All-permutation IsEntry entries order moved entries_are)

  found : (number : ℕ) → number < length history → (place : ℕ) × (place < length order) × ((entry_at order place).1 ≡ number)
  found number inside =
      let within : number < length entries = omega (arith, times.many) in
      let w = Contains-permutation entries order (entry_at entries number) moved (Contains-get_or entries number (0, 0) within) in
      let is : entry_at order w.0 ≡ (time_of moment (commit_at history number), number) = get_or_default order w.0 (0, 0) (entry_at entries number) w.1 ∙ (w.2 ∙ times.named number inside) in
      (w.0, w.1, ap (λ (e : ℕ × ℕ). e.1) is)

  counted : (test : Commit → Bool) (count : ℕ) → count ≤ length history →
      count_by (λ (e : ℕ × ℕ). test (commit_at history e.1)) (take count entries) ≡ count_by test (take count history)
  counted test zero few = refl
  counted test (suc count) few =
      let inside : count < length history = omega arith in
      let within : count < length entries = omega (arith, times.many) in
      let own = sum_by_more (λ (e : ℕ × ℕ). tally (test (commit_at history e.1))) entries count (0, 0) within in
      let other = sum_by_more (λ c. tally (test c)) history count (record { began = 0; ended = 0; stamp = 0 }) inside in
      let same : tally (test (commit_at history (entry_at entries count).1)) ≡ tally (test (commit_at history count)) =
      ap (λ (e : ℕ × ℕ). tally (test (commit_at history e.1))) (times.named count inside) in
      let before = counted test count (omega arith) in
      subst (λ (n : ℕ). count_by (λ (e : ℕ × ℕ). test (commit_at history e.1)) (take n entries) ≡ count_by test (take n history)) (add-one count)
      (omega (arith, own, other, same, before))

  pub IsOrderOf-sorted : IsSorted (λ x y. ordering_then (nat_cmp x.0 y.0) (nat_cmp x.1 y.1)) order → IsOrderOf moment history order
  IsOrderOf-sorted sorted = record {
    as_many = length_permutation entries order moved ∙ times.many;
    inside = λ place inside. (order_are place inside).0;
    timed = λ place inside. (order_are place inside).1;
    all = found;
    ascends = λ place later le inside.
        ComesFirst-from_cmp (entry_at order place).0 (entry_at order place).1 (entry_at order later).0 (entry_at order later).1
        (sorted_far (λ x y. is_lt (pair_cmp x y)) (ranks_by pair_cmp_total (λ x. x)) order sorted place later (0, 0) le inside);
    counts = λ test.
        let whole : take (length history) entries ≡ entries = take_all (length history) entries (omega (arith, times.many)) in
        let all : take (length history) history ≡ history = take_all (length history) history (omega arith) in
        sum_by-IsPermutation (λ (e : ℕ × ℕ). tally (test (commit_at history e.1))) entries order moved
        ∙ (ap (λ (es : List (ℕ × ℕ)). count_by (λ (e : ℕ × ℕ). test (commit_at history e.1)) es) (sym whole)
        ∙ (counted test (length history) (omega arith) ∙ ap (λ (cs : List Commit). count_by test cs) all));
  }
