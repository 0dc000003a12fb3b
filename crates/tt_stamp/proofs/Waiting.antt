-- Lists of entries with numbers as keys: what `insert_entry` and `remove_entry` keep.
use Rattle.std.proofs.Common.{◌≡◌, ℕ, ◌+◌, ◌<◌, ◌≤◌, cond, Bool, true, false, List, [], ◌∷◌, length, subst, refl, arith}
use Rattle.std.specs.declared.cmp.Ordering.{Ordering}
use Rattle.std.specs.declared.cmp.Ordering.TheVariants.{Less, Equal, Greater}
use Rattle.std.specs.Ordering.{nat_cmp, match_ordering, MatchOrdering}
use Rattle.std.specs.List.{AllByRecursion}
use Rattle.std.specs.Map.{remove_entry}
use Rattle.std.specs.BTreeMap.{insert_entry}
use Rattle.std.proofs.lemmas.Cmp.{ranked}
pub use Rattle.tt_stamp.specs.Standings.{Ascends}

pub AllByRecursion-weaker : {X : Type 0} (P Q : X → Type 0) → ((x : X) → P x → Q x) → (xs : List X) → AllByRecursion P xs → AllByRecursion Q xs
AllByRecursion-weaker P Q weaker [] all = tt
AllByRecursion-weaker P Q weaker (x ∷ xs) all =
    (weaker x all.0, AllByRecursion-weaker P Q weaker xs all.1)

module _ {X : Type 0} where
  module _ (P : ℕ × X → Type 0) (k : ℕ) (v : X) (here : P (k, v)) where
    all_inserted : (o : Ordering) (e : ℕ × X) (es : List (ℕ × X)) → MatchOrdering o (k < e.0) (k ≡ e.0) (e.0 < k) → P e → AllByRecursion P es → AllByRecursion P (insert_entry nat_cmp es k v) → AllByRecursion P (match_ordering o ((k, v) ∷ e ∷ es) ((e.0, v) ∷ es) (e ∷ insert_entry nat_cmp es k v))
    all_inserted Less e es is first rest inserted = (here, (first, rest))
    all_inserted Equal e es is first rest inserted = (subst (λ (n : ℕ). P (n, v)) is here, rest)
    all_inserted Greater e es is first rest inserted = (first, inserted)

    pub AllByRecursion-insert_entry : (es : List (ℕ × X)) → AllByRecursion P es → AllByRecursion P (insert_entry nat_cmp es k v)
    AllByRecursion-insert_entry [] all = (here, tt)
    AllByRecursion-insert_entry (e ∷ es) all =
        all_inserted (nat_cmp k e.0) e es (ranked k e.0 _ refl) all.0 all.1 (AllByRecursion-insert_entry es all.1)

  all_removed : (P : ℕ × X → Type 0) (b : Bool) (e : ℕ × X) (es fs : List (ℕ × X)) → P e → AllByRecursion P es → AllByRecursion P fs → AllByRecursion P (cond b es (e ∷ fs))
  all_removed P true e es fs first rest removed = rest
  all_removed P false e es fs first rest removed = (first, removed)

  pub AllByRecursion-remove_entry : (P : ℕ × X → Type 0) (test : ℕ → Bool) (es : List (ℕ × X)) → AllByRecursion P es → AllByRecursion P (remove_entry test es)
  AllByRecursion-remove_entry P test [] all = tt
  AllByRecursion-remove_entry P test (e ∷ es) all =
      all_removed P (test e.0) e es (remove_entry test es) all.0 all.1 (AllByRecursion-remove_entry P test es all.1)

  ascends_inserted : (k : ℕ) (v : X) (o : Ordering) (e : ℕ × X) (es : List (ℕ × X)) → MatchOrdering o (k < e.0) (k ≡ e.0) (e.0 < k) → Ascends (e ∷ es) → Ascends (insert_entry nat_cmp es k v) → Ascends (match_ordering o ((k, v) ∷ e ∷ es) ((e.0, v) ∷ es) (e ∷ insert_entry nat_cmp es k v))
  ascends_inserted k v Less e es is asc inserted =
      ((is, AllByRecursion-weaker (λ (f : ℕ × X). e.0 < f.0) (λ (f : ℕ × X). k < f.0) (λ f h. omega (arith, is, h)) es asc.0), asc)
  ascends_inserted k v Equal e es is asc inserted = asc
  ascends_inserted k v Greater e es is asc inserted =
      (AllByRecursion-insert_entry (λ (f : ℕ × X). e.0 < f.0) k v is es asc.0, inserted)

  pub Ascends-insert_entry : (k : ℕ) (v : X) (es : List (ℕ × X)) → Ascends es → Ascends (insert_entry nat_cmp es k v)
  Ascends-insert_entry k v [] asc = (tt, tt)
  Ascends-insert_entry k v (e ∷ es) asc =
      ascends_inserted k v (nat_cmp k e.0) e es (ranked k e.0 _ refl) asc (Ascends-insert_entry k v es asc.1)

  ascends_removed : (b : Bool) (e : ℕ × X) (es fs : List (ℕ × X)) → Ascends (e ∷ es) → AllByRecursion (λ f. e.0 < f.0) fs → Ascends fs → Ascends (cond b es (e ∷ fs))
  ascends_removed true e es fs asc all removed = asc.1
  ascends_removed false e es fs asc all removed = (all, removed)

  pub Ascends-remove_entry : (test : ℕ → Bool) (es : List (ℕ × X)) → Ascends es → Ascends (remove_entry test es)
  Ascends-remove_entry test [] asc = tt
  Ascends-remove_entry test (e ∷ es) asc =
      ascends_removed (test e.0) e es (remove_entry test es) asc (AllByRecursion-remove_entry (λ (f : ℕ × X). e.0 < f.0) test es asc.0) (Ascends-remove_entry test es asc.1)

  length_inserted : (o : Ordering) (e : ℕ × X) (k : ℕ) (v : X) (es fs : List (ℕ × X)) → length fs ≤ length es + 1 → length (match_ordering o ((k, v) ∷ e ∷ es) ((e.0, v) ∷ es) (e ∷ fs)) ≤ length (e ∷ es) + 1
  length_inserted Less e k v es fs h = omega arith
  length_inserted Equal e k v es fs h = omega arith
  length_inserted Greater e k v es fs h = omega arith

  pub length-insert_entry-le : (k : ℕ) (v : X) (es : List (ℕ × X)) → length (insert_entry nat_cmp es k v) ≤ length es + 1
  length-insert_entry-le k v [] = omega arith
  length-insert_entry-le k v (e ∷ es) =
      length_inserted (nat_cmp k e.0) e k v es (insert_entry nat_cmp es k v) (length-insert_entry-le k v es)

  length_removed : (b : Bool) (e : ℕ × X) (es fs : List (ℕ × X)) → length fs ≤ length es → length (cond b es (e ∷ fs)) ≤ length (e ∷ es)
  length_removed true e es fs h = omega arith
  length_removed false e es fs h = omega arith

  pub length-remove_entry-le : (test : ℕ → Bool) (es : List (ℕ × X)) → length (remove_entry test es) ≤ length es
  length-remove_entry-le test [] = omega arith
  length-remove_entry-le test (e ∷ es) =
      length_removed (test e.0) e es (remove_entry test es) (length-remove_entry-le test es)
