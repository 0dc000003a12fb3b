-- Commits of shards that a sort has put in the order of their keys.
use Rattle.std.proofs.Common.{◌≡◌, ℕ, ◌≤◌, inl, inr, List, subst, arith, ◌∙◌, Ordering, Less, Equal, Greater, refl, sym, ap}
use Rattle.std.specs.Prelude.{false}
use Rattle.std.specs.Cmp.{IsTotalOrder}
use Rattle.std.specs.List.Sorted.{IsSortedByKey}
use Rattle.std.specs.Ordering.{is_lt, nat_cmp, ordering_then, on, then_cmp}
use Rattle.std.proofs.lemmas.Bool.{cases_order, true≢false}
use Rattle.std.proofs.lemmas.Cmp.{nat_cmp_total, on_total, then_total}
use Rattle.std.proofs.lemmas.List.Sorted.{ranks_by, sorted_far}
use Rattle.tt_judge.specs.declared.history.ShardCommit.{ShardCommit}
use Rattle.tt_judge.specs.declared.terms.Rule.{Rule}
use Rattle.tt_judge.specs.TermSweep.{key_of, ComesNoLater, AreInKeyOrder}
use Rattle.tt_judge.proofs.Ordered.{nat_cmp-less, nat_cmp-equal}

abbrev pub key_cmp : ℕ × ℕ × ℕ → ℕ × ℕ × ℕ → Ordering
key_cmp = then_cmp (then_cmp (on (λ (k : ℕ × ℕ × ℕ). k.0) nat_cmp) (on (λ (k : ℕ × ℕ × ℕ). k.1) nat_cmp)) (on (λ (k : ℕ × ℕ × ℕ). k.2) nat_cmp)

key_cmp_total : IsTotalOrder key_cmp
key_cmp_total = then_total (then_total (on_total (λ (k : ℕ × ℕ × ℕ). k.0) nat_cmp_total) (on_total (λ (k : ℕ × ℕ × ℕ). k.1) nat_cmp_total))
    (on_total (λ (k : ℕ × ℕ × ℕ). k.2) nat_cmp_total)

ordering_then-assoc : (a b c : Ordering) → ordering_then (ordering_then a b) c ≡ ordering_then a (ordering_then b c)
ordering_then-assoc Less b c = refl
ordering_then-assoc Equal b c = refl
ordering_then-assoc Greater b c = refl

-- the first of two numbers is not above the second, and where they are equal the rest decides
not-later : (a b : ℕ) (rest : Ordering) → is_lt (ordering_then (nat_cmp b a) rest) ≡ false → (a ≤ b) × (a ≡ b → is_lt rest ≡ false)
not-later a b rest h = elim (cases_order b a) [
  | inl tie ↦ (omega arith, λ _. subst (λ (o : Ordering). is_lt (ordering_then o rest) ≡ false) (nat_cmp-equal b a tie) h)
  | inr other ↦ elim other [
    | inl less ↦ absurd (true≢false (subst (λ (o : Ordering). is_lt (ordering_then o rest) ≡ false) (nat_cmp-less b a less) h))
    | inr more ↦ (omega arith, λ same. absurd (omega arith))
  ]
]

not-less : (a b : ℕ) → is_lt (nat_cmp b a) ≡ false → a ≤ b
not-less a b h = elim (cases_order b a) [
  | inl tie ↦ omega arith
  | inr other ↦ elim other [
    | inl less ↦ absurd (true≢false (subst (λ (o : Ordering). is_lt o ≡ false) (nat_cmp-less b a less) h))
    | inr more ↦ omega arith
  ]
]

ComesNoLater-from_cmp : (key other : ℕ × ℕ × ℕ) → is_lt (key_cmp other key) ≡ false → ComesNoLater key other
ComesNoLater-from_cmp key other h =
    let first = not-later key.0 other.0 (ordering_then (nat_cmp other.1 key.1) (nat_cmp other.2 key.2))
    (sym (ap is_lt (ordering_then-assoc (nat_cmp other.0 key.0) (nat_cmp other.1 key.1) (nat_cmp other.2 key.2))) ∙ h) in
    let second : key.0 ≡ other.0 → (key.1 ≤ other.1) × (key.1 ≡ other.1 → is_lt (nat_cmp other.2 key.2) ≡ false) =
    λ shard. not-later key.1 other.1 (nat_cmp other.2 key.2) (first.1 shard) in
    record {
      shards = first.0;
      groups = λ shard. (second shard).0;
      ranks = λ shard group. not-less key.2 other.2 ((second shard).1 group);
    }

pub AreInKeyOrder-sorted : (rule : Rule) (commits : List ShardCommit) → IsSortedByKey (key_of rule) key_cmp commits → AreInKeyOrder rule commits
AreInKeyOrder-sorted rule commits sorted = λ place later le inside.
    ComesNoLater-from_cmp _ _ (sorted_far (λ x y. is_lt (key_cmp (key_of rule x) (key_of rule y))) (ranks_by key_cmp_total (key_of rule)) commits sorted place later (record { shard = 0; term = 0; stamp = 0; number = 0 }) le inside)
