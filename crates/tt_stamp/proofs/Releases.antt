-- What a release takes from the commits that wait.
use Rattle.std.proofs.Common.{◌++◌, reverse, append-nil, append_assoc, ◌≡◌, ℕ, zero, suc, ◌<◌, ◌≤◌, ◌==◌, nat_lt, cond, Bool, List, [], ◌∷◌, length, map, filter, slice_get, All, Contains, Some, ⊎_elim, refl, sym, ap, ◌∙◌, subst, arith}
use Rattle.std.specs.declared.cmp.Ordering.TheVariants.{Less, Equal, Greater}
use Rattle.std.specs.Ordering.{nat_cmp}
use Rattle.std.specs.List.{AllByRecursion}
use Rattle.std.specs.List.Sorted.{IsStrictlyIncreasing, IsStrictlySortedBy}
use Rattle.std.specs.Map.{remove_entry}
use Rattle.std.proofs.lemmas.Bool.{eq-eqb, le-ltb, lt-ltb, cases_lt}
use Rattle.std.proofs.lemmas.List.{reverse-append}
use Rattle.std.proofs.lemmas.Option.{same_Some, none-some}
use Rattle.std.proofs.lemmas.List.Elements.{All-contains, All-from_recursion, All-head}
use Rattle.std.proofs.lemmas.Map.Keys.{IsStrictlyIncreasing-from_sorted}
use Rattle.tt_stamp.specs.History.{waiting_of, stamp_on, IsNextReceipt, IsLegalHistory, IsRelease, release_of, with_receipts}
use Rattle.tt_stamp.specs.Book.{IsReleaseTurn}
use Rattle.tt_stamp.specs.declared.commits.Id.{Id}
use Rattle.tt_stamp.specs.declared.commits.Receipt.{Receipt}
use Rattle.tt_stamp.specs.declared.commits.Entry.{Entry}
use Rattle.tt_stamp.specs.declared.commits.Entry.TheVariants.{Passed}
use Rattle.tt_stamp.proofs.Ids.{Contains-here, Contains-there, Contains-nil, Contains-cases}
use Rattle.tt_stamp.proofs.Waiting.{AllByRecursion-weaker, Ascends}
use Rattle.tt_stamp.proofs.Histories.{Ascends-waiting_of}

-- a waiting commit: its stamp and its id
abbrev pub Commit : Type 0
Commit = ℕ × Id

-- the receipt of a commit
abbrev pub receipt_for : ℕ → Commit → Receipt
receipt_for earliest commit = record { id = commit.1; stamp = commit.0; earliest = earliest }

pub release_of-head : (commit : Commit) (waiting : List Commit) (earliest : ℕ) → commit.0 < earliest → release_of (commit ∷ waiting) earliest ≡ receipt_for earliest commit ∷ release_of waiting earliest
release_of-head commit waiting earliest h =
    let kept : List Commit = filter (λ (c : Commit). nat_lt (c.0) earliest) waiting in
    ap (λ (b : Bool). map (receipt_for earliest) (cond b (commit ∷ kept) kept)) (lt-ltb _ _ h)

pub release_of-later : (commit : Commit) (waiting : List Commit) (earliest : ℕ) → earliest ≤ commit.0 → release_of (commit ∷ waiting) earliest ≡ release_of waiting earliest
release_of-later commit waiting earliest h =
    let kept : List Commit = filter (λ (c : Commit). nat_lt (c.0) earliest) waiting in
    ap (λ (b : Bool). map (receipt_for earliest) (cond b (commit ∷ kept) kept)) (le-ltb _ _ h)

release_of-none : (waiting : List Commit) (earliest : ℕ) → AllByRecursion (λ (c : Commit). earliest ≤ c.0) waiting → release_of waiting earliest ≡ []
release_of-none [] earliest all = refl
release_of-none (commit ∷ waiting) earliest all =
    release_of-later commit waiting earliest all.0 ∙ release_of-none waiting earliest all.1

release_of-past_head : (commit : Commit) (waiting : List Commit) (earliest : ℕ) → Ascends (commit ∷ waiting) → earliest ≤ commit.0 → release_of (commit ∷ waiting) earliest ≡ []
release_of-past_head commit waiting earliest asc h =
    release_of-later commit waiting earliest h ∙ release_of-none waiting earliest (AllByRecursion-weaker (λ (c : Commit). commit.0 < c.0) (λ (c : Commit). earliest ≤ c.0) (λ c l. omega (arith, h, l)) waiting asc.0)

-- ---- by the first commit that waits
pub release_of-first_later : (waiting : List Commit) (earliest : ℕ) (commit : Commit) → Ascends waiting → slice_get waiting 0 ≡ Some commit → earliest ≤ commit.0 → release_of waiting earliest ≡ []
release_of-first_later [] earliest commit asc e h = refl
release_of-first_later (first ∷ waiting) earliest commit asc e h =
    let is = same_Some first commit e in
    release_of-past_head first waiting earliest asc (omega (arith, h, ap (λ (c : Commit). c.0) is))

pub release_of-first_sure : (waiting : List Commit) (earliest : ℕ) (commit : Commit) → slice_get waiting 0 ≡ Some commit → commit.0 < earliest → slice_get (release_of waiting earliest) 0 ≡ Some (receipt_for earliest commit)
release_of-first_sure [] earliest commit e h = absurd (none-some commit e)
release_of-first_sure (first ∷ waiting) earliest commit e h =
    let is = same_Some first commit e in
    ap (λ rs. slice_get rs 0) (release_of-head first waiting earliest (omega (arith, h, ap (λ (c : Commit). c.0) is))) ∙ ap (λ (c : Commit). Some (receipt_for earliest c)) is

record IsFirst (waiting : List Commit) (commit : Commit) : Type 0 where
  there : Contains waiting commit
  least : All (λ (c : Commit). commit.0 ≤ c.0) waiting

IsFirst-slice_get : (waiting : List Commit) (commit : Commit) → Ascends waiting → slice_get waiting 0 ≡ Some commit → IsFirst waiting commit
IsFirst-slice_get [] commit asc e = absurd (none-some commit e)
IsFirst-slice_get (first ∷ waiting) commit asc e =
    let is = same_Some first commit e in
    let least_first : All (λ (c : Commit). first.0 ≤ c.0) (first ∷ waiting) = All-from_recursion (λ (c : Commit). first.0 ≤ c.0) (first ∷ waiting) (omega arith, AllByRecursion-weaker (λ (c : Commit). first.0 < c.0) (λ (c : Commit). first.0 ≤ c.0) (λ c l. omega (arith, l)) waiting asc.0) in
    record {
      there = subst (λ (c : Commit). Contains (first ∷ waiting) c) is (Contains-here first waiting);
      least = subst (λ (c : Commit). All (λ (d : Commit). c.0 ≤ d.0) (first ∷ waiting)) is least_first;
    }

pub IsNextReceipt-first : (past : List Entry) (commit : Commit) (earliest : ℕ) → slice_get (waiting_of past) 0 ≡ Some commit → commit.0 < earliest → IsNextReceipt past (receipt_for earliest commit)
IsNextReceipt-first past commit earliest e h =
    let first = IsFirst-slice_get (waiting_of past) commit (Ascends-waiting_of past) e in
    record { waits = first.there; least = first.least; sure = h }

-- ---- a commit with the least stamp stands first
pub head_is_least : (first : Commit) (waiting : List Commit) (stamp : ℕ) (id : Id) → Ascends (first ∷ waiting) → Contains (first ∷ waiting) (stamp, id) → All (λ (c : Commit). stamp ≤ c.0) (first ∷ waiting) → first ≡ (stamp, id)
head_is_least first waiting stamp id asc there least =
    ⊎_elim
    (λ here. here)
    (λ later.
    let above = All-contains (λ (c : Commit). first.0 < c.0) waiting (stamp, id) (All-from_recursion (λ (c : Commit). first.0 < c.0) waiting asc.0) later in
    let below = All-head (λ (c : Commit). stamp ≤ c.0) first waiting least in
    absurd (omega (arith, above, below)))
    (Contains-cases first waiting (stamp, id) there)

pub remove_entry-head : (first : Commit) (waiting : List Commit) (stamp : ℕ) (id : Id) → first ≡ (stamp, id) → remove_entry (λ s. stamp == s) (first ∷ waiting) ≡ waiting
remove_entry-head first waiting stamp id e =
    ap (λ (b : Bool). cond b waiting (first ∷ remove_entry (λ s. stamp == s) waiting)) (eq-eqb stamp (first.0) (sym (ap (λ (c : Commit). c.0) e)))

-- ---- one step of a release
pub record IsReleaseStep (waiting rest : List Commit) (earliest : ℕ) (receipt : Receipt) : Type 0 where
  pub receipts : release_of waiting earliest ≡ receipt ∷ release_of rest earliest

step_at : (waiting : List Commit) (earliest : ℕ) (receipt : Receipt) → Ascends waiting → Contains waiting (receipt.stamp, receipt.id) → All (λ (c : Commit). receipt.stamp ≤ c.0) waiting → slice_get (release_of waiting earliest) 0 ≡ Some receipt → IsReleaseStep waiting (remove_entry (λ s. receipt.stamp == s) waiting) earliest receipt
step_at [] earliest receipt asc there least e = absurd (Contains-nil _ there)
step_at (first ∷ waiting) earliest receipt asc there least e =
    let is = head_is_least first waiting receipt.stamp receipt.id asc there least in
    let rest = remove_entry-head first waiting receipt.stamp receipt.id is in
    ⊎_elim
    (λ (sure : first.0 < earliest).
    let whole = release_of-head first waiting earliest sure in
    let same = same_Some (receipt_for earliest first) receipt (sym (ap (λ rs. slice_get rs 0) whole) ∙ e) in
    let step : IsReleaseStep (first ∷ waiting) (remove_entry (λ s. receipt.stamp == s) (first ∷ waiting)) earliest receipt = record {
      receipts = whole ∙ ap (λ r. r ∷ release_of waiting earliest) same ∙ ap (λ w. receipt ∷ release_of w earliest) (sym rest);
    } in
    step)
    (λ (later : earliest ≤ first.0). absurd (none-some receipt (sym (ap (λ rs. slice_get rs 0) (release_of-past_head first waiting earliest asc later)) ∙ e)))
    (cases_lt (first.0) earliest)

pub IsReleaseStep-next : (past : List Entry) (earliest : ℕ) (receipt : Receipt) → IsNextReceipt past receipt → slice_get (release_of (waiting_of past) earliest) 0 ≡ Some receipt → IsReleaseStep (waiting_of past) (waiting_of (Passed receipt ∷ past)) earliest receipt
IsReleaseStep-next past earliest receipt next e =
    step_at (waiting_of past) earliest receipt (Ascends-waiting_of past) next.waits next.least e

-- ---- what is computed is the release
abbrev Right : List Commit → ℕ → Receipt → Type 0
Right waiting earliest receipt = (receipt.earliest ≡ earliest) × (receipt.stamp < earliest) × Contains waiting (receipt.stamp, receipt.id)

right_more : (commit : Commit) (waiting : List Commit) (earliest : ℕ) (rs : List Receipt) → AllByRecursion (Right waiting earliest) rs → AllByRecursion (Right (commit ∷ waiting) earliest) rs
right_more commit waiting earliest rs all =
    AllByRecursion-weaker (Right waiting earliest) (Right (commit ∷ waiting) earliest) (λ r h. (h.0, h.1, Contains-there commit waiting (r.stamp, r.id) (h.2))) rs all

each_right : (waiting : List Commit) (earliest : ℕ) → AllByRecursion (Right waiting earliest) (release_of waiting earliest)
each_right [] earliest = tt
each_right (commit ∷ waiting) earliest =
    let before = right_more commit waiting earliest (release_of waiting earliest) (each_right waiting earliest) in
    ⊎_elim
    (λ (sure : commit.0 < earliest). subst (AllByRecursion (Right (commit ∷ waiting) earliest)) (sym (release_of-head commit waiting earliest sure)) ((refl, sure, Contains-here commit waiting), before))
    (λ (later : earliest ≤ commit.0). subst (AllByRecursion (Right (commit ∷ waiting) earliest)) (sym (release_of-later commit waiting earliest later)) before)
    (cases_lt (commit.0) earliest)

none_left_out : (waiting : List Commit) (earliest stamp : ℕ) (id : Id) → Contains waiting (stamp, id) → stamp < earliest → Contains (release_of waiting earliest) (receipt_for earliest (stamp, id))
none_left_out [] earliest stamp id h sure = absurd (Contains-nil _ h)
none_left_out (commit ∷ waiting) earliest stamp id h sure =
    let wanted : Receipt = receipt_for earliest (stamp, id) in
    let later : Contains waiting (stamp, id) → Contains (release_of waiting earliest) wanted = λ there. none_left_out waiting earliest stamp id there sure in
    ⊎_elim
    (λ (first : commit.0 < earliest). subst (λ rs. Contains rs wanted) (sym (release_of-head commit waiting earliest first))
    (⊎_elim
    (λ here. subst (λ (c : Commit). Contains (receipt_for earliest commit ∷ release_of waiting earliest) (receipt_for earliest c)) here (Contains-here (receipt_for earliest commit) (release_of waiting earliest)))
    (λ there. Contains-there (receipt_for earliest commit) (release_of waiting earliest) wanted (later there))
    (Contains-cases commit waiting (stamp, id) h)))
    (λ (past : earliest ≤ commit.0). subst (λ rs. Contains rs wanted) (sym (release_of-later commit waiting earliest past))
    (⊎_elim
    (λ here. absurd (omega (arith, past, sure, ap (λ (c : Commit). c.0) here)))
    (λ there. later there)
    (Contains-cases commit waiting (stamp, id) h)))
    (cases_lt (commit.0) earliest)

nat_cmp-Less : (a b : ℕ) → a < b → nat_cmp a b ≡ Less
nat_cmp-Less a b h = ap (λ (t : Bool). cond t Less (cond (a == b) Equal Greater)) (lt-ltb a b h)

above_released : (stamp : ℕ) (waiting : List Commit) (earliest : ℕ) → AllByRecursion (λ (c : Commit). stamp < c.0) waiting → AllByRecursion (λ (t : ℕ). nat_cmp stamp t ≡ Less) (map stamp_on (release_of waiting earliest))
above_released stamp [] earliest all = tt
above_released stamp (commit ∷ waiting) earliest all =
    let after = above_released stamp waiting earliest all.1 in
    let P : List Receipt → Type 0 = λ rs. AllByRecursion (λ (t : ℕ). nat_cmp stamp t ≡ Less) (map stamp_on rs) in
    ⊎_elim
    (λ (sure : commit.0 < earliest). subst P (sym (release_of-head commit waiting earliest sure)) (nat_cmp-Less _ _ all.0, after))
    (λ (later : earliest ≤ commit.0). subst P (sym (release_of-later commit waiting earliest later)) after)
    (cases_lt (commit.0) earliest)

sorted_released : (waiting : List Commit) (earliest : ℕ) → Ascends waiting → IsStrictlySortedBy nat_cmp (map stamp_on (release_of waiting earliest))
unfolding IsStrictlySortedBy
sorted_released [] earliest asc = tt
sorted_released (commit ∷ waiting) earliest asc =
    let after = sorted_released waiting earliest asc.1 in
    let P : List Receipt → Type 0 = λ rs. IsStrictlySortedBy nat_cmp (map stamp_on rs) in
    ⊎_elim
    (λ (sure : commit.0 < earliest). subst P (sym (release_of-head commit waiting earliest sure)) (above_released (commit.0) waiting earliest asc.0, after))
    (λ (later : earliest ≤ commit.0). subst P (sym (release_of-later commit waiting earliest later)) after)
    (cases_lt (commit.0) earliest)

pub IsRelease-release_of : (past : List Entry) (earliest : ℕ) → IsRelease (waiting_of past) earliest (release_of (waiting_of past) earliest)
IsRelease-release_of past earliest = record {
  each = All-from_recursion (Right (waiting_of past) earliest) (release_of (waiting_of past) earliest) (each_right (waiting_of past) earliest);
  whole = λ stamp id there sure. none_left_out (waiting_of past) earliest stamp id there sure;
  ascending = IsStrictlyIncreasing-from_sorted _ (sorted_released (waiting_of past) earliest (Ascends-waiting_of past));
}

-- ---- the stamps of the commits that wait rise
above_waiting : (stamp : ℕ) (waiting : List Commit) → AllByRecursion (λ (c : Commit). stamp < c.0) waiting → AllByRecursion (λ (t : ℕ). nat_cmp stamp t ≡ Less) (map (λ (c : Commit). c.0) waiting)
above_waiting stamp [] all = tt
above_waiting stamp (commit ∷ waiting) all =
    (nat_cmp-Less stamp (commit.0) all.0, above_waiting stamp waiting all.1)

sorted_waiting : (waiting : List Commit) → Ascends waiting → IsStrictlySortedBy nat_cmp (map (λ (c : Commit). c.0) waiting)
unfolding IsStrictlySortedBy
sorted_waiting [] asc = tt
sorted_waiting (commit ∷ waiting) asc =
    (above_waiting (commit.0) waiting asc.0, sorted_waiting waiting asc.1)

pub IsStrictlyIncreasing-waiting_of : (past : List Entry) → IsStrictlyIncreasing (map (λ (c : Commit). c.0) (waiting_of past))
IsStrictlyIncreasing-waiting_of past =
    IsStrictlyIncreasing-from_sorted _ (sorted_waiting (waiting_of past) (Ascends-waiting_of past))

-- ---- one turn of a release
turn_at : (past : List Entry) (earliest : ℕ) (receipt : Receipt) → IsReleaseStep (waiting_of past) (waiting_of (Passed receipt ∷ past)) earliest receipt → IsReleaseTurn past (Passed receipt ∷ past) earliest
turn_at past earliest receipt step = record {
  same_end = ap (λ rs. with_receipts rs past) step.receipts;
  fewer = omega (arith, ap length step.receipts);
}

pub IsReleaseTurn-next : (past now : List Entry) (earliest : ℕ) (receipt : Receipt) → now ≡ Passed receipt ∷ past → IsNextReceipt past receipt → Some receipt ≡ slice_get (release_of (waiting_of past) earliest) 0 → IsReleaseTurn past now earliest
IsReleaseTurn-next past now earliest receipt is next first =
    subst (λ (h : List Entry). IsReleaseTurn past h earliest) (sym is) (turn_at past earliest receipt (IsReleaseStep-next past earliest receipt next (sym first)))

-- a commit waits where one is to be released
pub waits-released : (waiting : List Commit) (earliest : ℕ) → 0 < length (release_of waiting earliest) → 0 < length waiting
waits-released [] earliest h = absurd (omega (arith, h))
waits-released (commit ∷ waiting) earliest h = omega arith

-- the first that waits is released where one is
pub sure-first : (waiting : List Commit) (earliest : ℕ) (commit : Commit) → Ascends waiting → slice_get waiting 0 ≡ Some commit → 0 < length (release_of waiting earliest) → commit.0 < earliest
sure-first waiting earliest commit asc first h =
    ⊎_elim
    (λ (sure : commit.0 < earliest). sure)
    (λ (later : earliest ≤ commit.0). absurd (omega (arith, h, ap length (release_of-first_later waiting earliest commit asc first later))))
    (cases_lt (commit.0) earliest)

-- ---- the history after a release is legal
first_there : (waiting : List Commit) → 0 < length waiting → (commit : Commit) × (slice_get waiting 0 ≡ Some commit)
first_there [] h = absurd (omega (arith, h))
first_there (commit ∷ waiting) h = (commit, refl)

no_receipts : (receipts : List Receipt) → length receipts ≡ 0 → receipts ≡ []
no_receipts [] e = refl
no_receipts (r ∷ receipts) e = absurd (omega (arith, e))

legal_after : (n : ℕ) (past : List Entry) (earliest : ℕ) → length (release_of (waiting_of past) earliest) ≡ n → IsLegalHistory past → IsLegalHistory (with_receipts (release_of (waiting_of past) earliest) past)
legal_after zero past earliest e legal =
    subst (λ (rs : List Receipt). IsLegalHistory (with_receipts rs past)) (sym (no_receipts (release_of (waiting_of past) earliest) e)) legal
legal_after (suc n) past earliest e legal =
    let waiting : List Commit = waiting_of past in
    let some : 0 < length (release_of waiting earliest) = omega (arith, e) in
    let first = first_there waiting (waits-released waiting earliest some) in
    let sure = sure-first waiting earliest (first.0) (Ascends-waiting_of past) (first.1) some in
    let next = IsNextReceipt-first past (first.0) earliest (first.1) sure in
    let receipt : Receipt = receipt_for earliest (first.0) in
    let step = IsReleaseStep-next past earliest receipt next (release_of-first_sure waiting earliest (first.0) (first.1) sure) in
    subst (λ (rs : List Receipt). IsLegalHistory (with_receipts rs past)) (sym step.receipts)
    (legal_after n (Passed receipt ∷ past) earliest (omega (arith, e, ap length step.receipts)) (next, legal))

pub IsLegalHistory-release : (past : List Entry) (earliest : ℕ) → IsLegalHistory past → IsLegalHistory (with_receipts (release_of (waiting_of past) earliest) past)
IsLegalHistory-release past earliest legal = legal_after _ past earliest refl legal

-- ---- receipts stand at the end of the history
pub reverse-with_receipts : (past : List Entry) (receipts : List Receipt) → reverse (with_receipts receipts past) ≡ reverse past ++ map (λ (r : Receipt). Passed r) receipts
reverse-with_receipts past [] = sym (append-nil (reverse past))
reverse-with_receipts past (receipt ∷ receipts) =
    let rest : List Entry = map (λ (r : Receipt). Passed r) receipts in
    reverse-with_receipts (Passed receipt ∷ past) receipts ∙ ap (λ (h : List Entry). h ++ rest) (reverse-append (Passed receipt ∷ []) past) ∙ append_assoc (reverse past) (Passed receipt ∷ []) rest
