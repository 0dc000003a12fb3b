-- A place among the commits that wait, and what it divides them into.
use Rattle.std.proofs.Common.{◌≡◌, ◌≢◌, ℕ, zero, suc, ◌+◌, ◌<◌, ◌≤◌, ◌==◌, cond, nat_lt, Bool, true, false, List, [], ◌∷◌, length, filter, slice_index_or, refl, sym, ap, ◌∙◌, subst, arith}
use Rattle.std.specs.declared.cmp.Ordering.{Ordering}
use Rattle.std.specs.declared.cmp.Ordering.TheVariants.{Less, Equal, Greater}
use Rattle.std.specs.Ordering.{nat_cmp, match_ordering}
use Rattle.std.specs.List.{insert}
use Rattle.std.specs.List.Sorted.{IsPartitionPoint, IsNonDecreasingBy}
use Rattle.std.specs.BTreeMap.{insert_entry}
use Rattle.std.proofs.lemmas.Bool.{lt-ltb, le-ltb, ltb-true, ltb-false, ne_eqb, true≢false}
use Rattle.std.proofs.lemmas.List.{get_or_default}
use Rattle.std.proofs.lemmas.List.Elements.{All-get_or, All-from_recursion}
use Rattle.std.proofs.Math.ListN.{length-map}
use Rattle.tt_stamp.specs.History.{waiting_of, release_of, has_stamp}
use Rattle.tt_stamp.specs.declared.commits.Id.{Id}
use Rattle.tt_stamp.specs.declared.commits.Entry.{Entry}
use Rattle.tt_stamp.proofs.Ascending.{IsNonDecreasingBy-ascends}
use Rattle.tt_stamp.proofs.Histories.{Ascends-waiting_of}
use Rattle.tt_stamp.proofs.Releases.{Commit, receipt_for}
use Rattle.tt_stamp.proofs.Waits.{stamped}

-- those that pass are as many as stand before the place
pub length-filter-divided : (p : Commit → Bool) (xs : List Commit) (i : ℕ) → i ≤ length xs → IsPartitionPoint (λ c. p c ≡ true) (λ c. p c ≡ false) xs i → length (filter p xs) ≡ i
length-filter-divided p [] zero h at = refl
length-filter-divided p [] (suc i) h at = absurd (omega (arith, h))
length-filter-divided p (c ∷ xs) zero h at =
    let first : p c ≡ false = at.1 0 c (omega arith) (omega arith) in
    let rest = length-filter-divided p xs zero (omega arith) ((λ k d l m. absurd (omega (arith, l, m))), (λ k d l m. at.1 (suc k) d (omega arith) (omega (arith, m)))) in
    ap (λ (b : Bool). length (cond b (c ∷ filter p xs) (filter p xs))) first ∙ rest
length-filter-divided p (c ∷ xs) (suc i) h at =
    let first : p c ≡ true = at.0 0 c (omega arith) (omega arith) in
    let rest = length-filter-divided p xs i (omega (arith, h)) ((λ k d l m. at.0 (suc k) d (omega arith) (omega (arith, m))), (λ k d l m. at.1 (suc k) d (omega (arith, l)) (omega (arith, m)))) in
    ap (λ (b : Bool). length (cond b (c ∷ filter p xs) (filter p xs))) first ∙ omega (arith, rest)

nat_cmp-Less : (a b : ℕ) → a < b → nat_cmp a b ≡ Less
nat_cmp-Less a b h = ap (λ (t : Bool). cond t Less (cond (a == b) Equal Greater)) (lt-ltb a b h)

nat_cmp-Greater : (a b : ℕ) → b < a → nat_cmp a b ≡ Greater
nat_cmp-Greater a b h =
    ap (λ (t : Bool). cond t Less (cond (a == b) Equal Greater)) (le-ltb a b (omega (arith, h)))
    ∙ ap (λ (t : Bool). cond t Equal Greater) (ne_eqb a b (λ e. omega (arith, h, e)))

-- the commit goes to the place that the order says
module _ (stamp : ℕ) (id : Id) where
  pub insert-in_order : (xs : List Commit) (i : ℕ) → i ≤ length xs → IsPartitionPoint (λ c. c.0 < stamp) (λ c. stamp < c.0) xs i → insert xs i (stamp, id) ≡ insert_entry nat_cmp xs stamp id
  insert-in_order [] zero h at = refl
  insert-in_order [] (suc i) h at = absurd (omega (arith, h))
  insert-in_order (c ∷ xs) zero h at =
      let first : stamp < c.0 = at.1 0 c (omega arith) (omega arith) in
      ap (λ (o : Ordering). match_ordering o ((stamp, id) ∷ c ∷ xs) ((c.0, id) ∷ xs) (c ∷ insert_entry nat_cmp xs stamp id)) (sym (nat_cmp-Less stamp (c.0) first))
  insert-in_order (c ∷ xs) (suc i) h at =
      let first : c.0 < stamp = at.0 0 c (omega arith) (omega arith) in
      let rest = insert-in_order xs i (omega (arith, h)) ((λ k d l m. at.0 (suc k) d (omega arith) (omega (arith, m))), (λ k d l m. at.1 (suc k) d (omega (arith, l)) (omega (arith, m)))) in
      ap (λ (es : List Commit). c ∷ es) rest ∙ ap (λ (o : Ordering). match_ordering o ((stamp, id) ∷ c ∷ xs) ((c.0, id) ∷ xs) (c ∷ insert_entry nat_cmp xs stamp id)) (sym (nat_cmp-Greater stamp (c.0) first))

-- one that is above the last is above all
pub IsPartitionPoint-all : (xs : List Commit) (stamp n i : ℕ) (last : Commit) → IsNonDecreasingBy (λ (c : Commit). c.0) xs → n + 1 ≡ length xs → i ≡ length xs → last ≡ slice_index_or xs n last → last.0 < stamp → IsPartitionPoint (λ (c : Commit). nat_lt (c.0) stamp ≡ true) (λ (c : Commit). nat_lt (c.0) stamp ≡ false) xs i
IsPartitionPoint-all xs stamp n i last in_order whole all is h = (
  λ k d l m. lt-ltb ((slice_index_or xs k d).0) stamp
      (let far = in_order k n d (omega (arith, m, whole, all)) (omega (arith, whole)) in
      let same = get_or_default xs n d last (omega (arith, whole)) in
      omega (arith, far, h, ap (λ (c : Commit). c.0) is, ap (λ (c : Commit). c.0) same)),
  λ k d l m. absurd (omega (arith, l, m, all)),
)

-- those that are released are as many as are below
pub length-release_of-divided : (waiting : List Commit) (earliest i : ℕ) → i ≤ length waiting → IsPartitionPoint (λ (c : Commit). nat_lt (c.0) earliest ≡ true) (λ (c : Commit). nat_lt (c.0) earliest ≡ false) waiting i → i ≡ length (release_of waiting earliest)
length-release_of-divided waiting earliest i h at =
    sym (length-filter-divided (λ (c : Commit). nat_lt (c.0) earliest) waiting i h at)
    ∙ sym (length-map (filter (λ (c : Commit). nat_lt (c.0) earliest) waiting) (receipt_for earliest))

-- a commit with a new stamp goes behind those that are below it
pub insert-new : (past : List Entry) (xs : List Commit) (i stamp : ℕ) (id : Id) → xs ≡ waiting_of past → has_stamp past stamp ≡ false → i ≤ length xs → IsPartitionPoint (λ (c : Commit). nat_lt (c.0) stamp ≡ true) (λ (c : Commit). nat_lt (c.0) stamp ≡ false) xs i → insert xs i (stamp, id) ≡ insert_entry nat_cmp xs stamp id
insert-new past xs i stamp id is new h at =
    let there = All-from_recursion (λ (c : Commit). has_stamp past (c.0) ≡ true) (waiting_of past) (stamped past) in
    insert-in_order stamp id xs i h (
      λ k d l m. ltb-true ((slice_index_or xs k d).0) stamp (at.0 k d l m),
      λ k d l m.
          let not_below = ltb-false ((slice_index_or xs k d).0) stamp (at.1 k d l m) in
          let here = All-get_or (λ (c : Commit). has_stamp past (c.0) ≡ true) (waiting_of past) k d (omega (arith, m, ap length is)) there in
          let apart : (slice_index_or xs k d).0 ≢ stamp = λ same. true≢false (sym here ∙ ap (λ (ws : List Commit). has_stamp past ((slice_index_or ws k d).0)) (sym is) ∙ ap (λ (n : ℕ). has_stamp past n) same ∙ new) in
          omega (arith, not_below, apart),
    )

pub IsNonDecreasingBy-waiting_of : (past : List Entry) (xs : List Commit) → xs ≡ waiting_of past → IsNonDecreasingBy (λ (c : Commit). c.0) xs
IsNonDecreasingBy-waiting_of past xs is =
    subst (λ (ws : List Commit). IsNonDecreasingBy (λ (c : Commit). c.0) ws) (sym is) (IsNonDecreasingBy-ascends (waiting_of past) (Ascends-waiting_of past))
