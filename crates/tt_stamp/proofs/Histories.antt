-- What is true of the histories of books.
use Rattle.std.proofs.Common.{◌≡◌, ◌≢◌, ◌↔◌, ℕ, ◌<◌, ◌≤◌, ◌==◌, ◌||◌, cond, nat_le, Bool, true, false, List, [], ◌∷◌, ◌++◌, length, reverse, get_or, Contains, Option, Some, None, is_some, MatchOption, ⊎_elim, refl, sym, ap, ◌∙◌, subst, arith}
use Rattle.std.specs.List.{AllByRecursion}
use Rattle.std.proofs.lemmas.Bool.{true≢false, false≢true, cases_Bool, or_cases, eqb-true, eq-eqb, lt-leb, le-leb, leb-true, leb-false}
use Rattle.std.proofs.Math.ListN.{get_or-append}
use Rattle.std.proofs.Math.Seq.{get_or-append_seam}
use Rattle.std.proofs.lemmas.List.{reverse-append, length-reverse}
use Rattle.std.proofs.lemmas.List.Elements.{All-contains, All-from_recursion}
use Rattle.std.proofs.lemmas.Option.{none-some}
use Rattle.tt_stamp.specs.Ids.{same_id}
use Rattle.tt_stamp.specs.History.{max_waiting, waiting_of, released_of, IsIdThere, IsStampThere, MayQueue, IsLegalHistory, has_id, has_stamp, first_queue_fault, receipt_of}
use Rattle.tt_stamp.specs.Book.{standing_of}
use Rattle.tt_stamp.specs.declared.commits.Id.{Id}
use Rattle.tt_stamp.specs.declared.commits.Receipt.{Receipt}
use Rattle.tt_stamp.specs.declared.commits.Entry.{Entry}
use Rattle.tt_stamp.specs.declared.commits.Entry.TheVariants.{Queued, Passed}
use Rattle.tt_stamp.specs.declared.commits.Standing.{Standing}
use Rattle.tt_stamp.specs.declared.commits.Standing.TheVariants.{Waits, Released}
use Rattle.tt_stamp.specs.declared.faults.BookFault.{BookFault}
use Rattle.tt_stamp.specs.declared.faults.BookFault.TheVariants.{Full, IdThere, StampThere}
use Rattle.tt_stamp.proofs.Ids.{same_id-true, same_id-refl, eq-same_id, or_left, or_right, Contains-here, Contains-there, Contains-nil, Contains-cases}
use Rattle.tt_stamp.proofs.Waiting.{AllByRecursion-weaker, AllByRecursion-insert_entry, AllByRecursion-remove_entry, Ascends, Ascends-insert_entry, Ascends-remove_entry, length-insert_entry-le, length-remove_entry-le}

-- no more wait than may
pub length-waiting_of-le : (past : List Entry) → IsLegalHistory past → length (waiting_of past) ≤ max_waiting
length-waiting_of-le [] legal = omega arith
length-waiting_of-le (Queued id stamp ∷ past) legal =
    omega (arith, length-insert_entry-le stamp id (waiting_of past), legal.0.room)
length-waiting_of-le (Passed receipt ∷ past) legal =
    omega (arith, length-remove_entry-le (λ s. receipt.stamp == s) (waiting_of past), length-waiting_of-le past legal.1)

pub Ascends-waiting_of : (past : List Entry) → Ascends (waiting_of past)
Ascends-waiting_of [] = tt
Ascends-waiting_of (Queued id stamp ∷ past) =
    Ascends-insert_entry stamp id (waiting_of past) (Ascends-waiting_of past)
Ascends-waiting_of (Passed receipt ∷ past) =
    Ascends-remove_entry (λ s. receipt.stamp == s) (waiting_of past) (Ascends-waiting_of past)

-- ---- ids and stamps that are there
queued-same : (i j : Id) (s t : ℕ) → ◌≡◌ {A = Entry} (Queued i s) (Queued j t) → (i ≡ j) × (s ≡ t)
queued-same i j s t e = (cc, cc)

passed-queued : (r : Receipt) (i : Id) (s : ℕ) → ◌≡◌ {A = Entry} (Passed r) (Queued i s) → ⊥
passed-queued r i s e = cc

pub has_id-there : (past : List Entry) (id : Id) → IsIdThere past id → has_id past id ≡ true
has_id-there [] id (stamp, h) = absurd (Contains-nil _ h)
has_id-there (Queued other s ∷ past) id (stamp, h) =
    ⊎_elim
    (λ here. or_left (same_id other id) (has_id past id) (eq-same_id other id (queued-same other id s stamp here).0))
    (λ there. or_right (same_id other id) (has_id past id) (has_id-there past id (stamp, there)))
    (Contains-cases (Queued other s) past (Queued id stamp) h)
has_id-there (Passed r ∷ past) id (stamp, h) =
    ⊎_elim
    (λ here. absurd (passed-queued r id stamp here))
    (λ there. has_id-there past id (stamp, there))
    (Contains-cases (Passed r) past (Queued id stamp) h)

pub there-has_id : (past : List Entry) (id : Id) → has_id past id ≡ true → IsIdThere past id
there-has_id [] id e = absurd (false≢true e)
there-has_id (Queued other s ∷ past) id e =
    ⊎_elim
    (λ here. (s, subst (λ (i : Id). Contains (Queued other s ∷ past) (Queued i s)) (same_id-true other id here) (Contains-here (Queued other s) past)))
    (λ there. let found = there-has_id past id there in (found.0, Contains-there (Queued other s) past (Queued id (found.0)) (found.1)))
    (or_cases (same_id other id) (has_id past id) e)
there-has_id (Passed r ∷ past) id e =
    let found = there-has_id past id e in
    (found.0, Contains-there (Passed r) past (Queued id (found.0)) (found.1))

pub has_stamp-there : (past : List Entry) (stamp : ℕ) → IsStampThere past stamp → has_stamp past stamp ≡ true
has_stamp-there [] stamp (id, h) = absurd (Contains-nil _ h)
has_stamp-there (Queued other s ∷ past) stamp (id, h) =
    ⊎_elim
    (λ here. or_left (s == stamp) (has_stamp past stamp) (eq-eqb s stamp (queued-same other id s stamp here).1))
    (λ there. or_right (s == stamp) (has_stamp past stamp) (has_stamp-there past stamp (id, there)))
    (Contains-cases (Queued other s) past (Queued id stamp) h)
has_stamp-there (Passed r ∷ past) stamp (id, h) =
    ⊎_elim
    (λ here. absurd (passed-queued r id stamp here))
    (λ there. has_stamp-there past stamp (id, there))
    (Contains-cases (Passed r) past (Queued id stamp) h)

pub there-has_stamp : (past : List Entry) (stamp : ℕ) → has_stamp past stamp ≡ true → IsStampThere past stamp
there-has_stamp [] stamp e = absurd (false≢true e)
there-has_stamp (Queued other s ∷ past) stamp e =
    ⊎_elim
    (λ here. (other, subst (λ (t : ℕ). Contains (Queued other s ∷ past) (Queued other t)) (eqb-true s stamp here) (Contains-here (Queued other s) past)))
    (λ there. let found = there-has_stamp past stamp there in (found.0, Contains-there (Queued other s) past (Queued (found.0) stamp) (found.1)))
    (or_cases (s == stamp) (has_stamp past stamp) e)
there-has_stamp (Passed r ∷ past) stamp e =
    let found = there-has_stamp past stamp e in
    (found.0, Contains-there (Passed r) past (Queued (found.0) stamp) (found.1))

-- ---- what the tests of a queueing say
pub MayQueue-from_tests : (past : List Entry) (id : Id) (stamp : ℕ) → length (waiting_of past) < max_waiting → has_id past id ≡ false → has_stamp past stamp ≡ false → MayQueue past id stamp
MayQueue-from_tests past id stamp room new_id new_stamp = record {
  room = room;
  new_id = λ there. true≢false (sym (has_id-there past id there) ∙ new_id);
  new_stamp = λ there. true≢false (sym (has_stamp-there past stamp there) ∙ new_stamp);
}

pub has_id-new : (past : List Entry) (id : Id) (stamp : ℕ) → MayQueue past id stamp → has_id past id ≡ false
has_id-new past id stamp may =
    ⊎_elim (λ e. absurd (may.new_id (there-has_id past id e))) (λ e. e) (cases_Bool (has_id past id))

pub has_stamp-new : (past : List Entry) (id : Id) (stamp : ℕ) → MayQueue past id stamp → has_stamp past stamp ≡ false
has_stamp-new past id stamp may =
    ⊎_elim (λ e. absurd (may.new_stamp (there-has_stamp past stamp e))) (λ e. e) (cases_Bool (has_stamp past stamp))

fault_at : (past : List Entry) (id : Id) (stamp : ℕ) (full there_id there_stamp : Bool) → nat_le max_waiting (length (waiting_of past)) ≡ full → has_id past id ≡ there_id → has_stamp past stamp ≡ there_stamp → first_queue_fault past id stamp ≡ cond full (Some Full) (cond there_id (Some IdThere) (cond there_stamp (Some StampThere) None))
fault_at past id stamp full there_id there_stamp e f g =
    ap (λ x. cond x (Some Full) (cond (has_id past id) (Some IdThere) (cond (has_stamp past stamp) (Some StampThere) None))) e ∙ ap (λ x. cond full (Some Full) (cond x (Some IdThere) (cond (has_stamp past stamp) (Some StampThere) None))) f ∙ ap (λ x. cond full (Some Full) (cond there_id (Some IdThere) (cond x (Some StampThere) None))) g

pub first_queue_fault-id : (past : List Entry) (id : Id) (stamp : ℕ) → length (waiting_of past) < max_waiting → has_id past id ≡ true → first_queue_fault past id stamp ≡ Some IdThere
first_queue_fault-id past id stamp room e =
    fault_at past id stamp false true _ (lt-leb _ _ room) e refl

pub first_queue_fault-stamp : (past : List Entry) (id : Id) (stamp : ℕ) → length (waiting_of past) < max_waiting → has_id past id ≡ false → has_stamp past stamp ≡ true → first_queue_fault past id stamp ≡ Some StampThere
first_queue_fault-stamp past id stamp room e f =
    fault_at past id stamp false false true (lt-leb _ _ room) e f

pub first_queue_fault-none : (past : List Entry) (id : Id) (stamp : ℕ) → length (waiting_of past) < max_waiting → has_id past id ≡ false → has_stamp past stamp ≡ false → first_queue_fault past id stamp ≡ None
first_queue_fault-none past id stamp room e f =
    fault_at past id stamp false false false (lt-leb _ _ room) e f

-- ---- where a commit stands
known : (past : List Entry) → AllByRecursion (λ (commit : ℕ × Id). has_id past (commit.1) ≡ true) (waiting_of past)
known [] = tt
known (Queued id stamp ∷ past) =
    AllByRecursion-insert_entry (λ (commit : ℕ × Id). has_id (Queued id stamp ∷ past) (commit.1) ≡ true) stamp id (or_left (same_id id id) (has_id past id) (same_id-refl id)) (waiting_of past) (AllByRecursion-weaker (λ (commit : ℕ × Id). has_id past (commit.1) ≡ true) (λ (commit : ℕ × Id). has_id (Queued id stamp ∷ past) (commit.1) ≡ true) (λ commit h. or_right (same_id id (commit.1)) (has_id past (commit.1)) h) (waiting_of past) (known past))
known (Passed r ∷ past) =
    AllByRecursion-remove_entry (λ (commit : ℕ × Id). has_id past (commit.1) ≡ true) (λ s. r.stamp == s) (waiting_of past) (known past)

pub has_id-waits : (past : List Entry) (stamp : ℕ) (id : Id) → Contains (waiting_of past) (stamp, id) → has_id past id ≡ true
has_id-waits past stamp id h =
    let P : ℕ × Id → Type 0 = λ commit. has_id past (commit.1) ≡ true in
    All-contains P (waiting_of past) (stamp, id) (All-from_recursion P (waiting_of past) (known past)) h

is_some_at : (b there : Bool) (x : Standing) (rest : Option Standing) → is_some rest ≡ there → is_some (cond b (Some x) rest) ≡ (b || there)
is_some_at true there x rest e = refl
is_some_at false there x rest e = e

is_some_kept : (b there : Bool) (x : Standing) (rest : Option Standing) → (b ≡ true → there ≡ true) → is_some rest ≡ there → is_some (cond b (Some x) rest) ≡ there
is_some_kept true there x rest f e = sym (f refl)
is_some_kept false there x rest f e = e

pub is_some-standing_of : (past : List Entry) → IsLegalHistory past → (id : Id) → is_some (standing_of past id) ≡ has_id past id
is_some-standing_of [] legal id = refl
is_some-standing_of (Queued other s ∷ past) legal id =
    is_some_at (same_id other id) (has_id past id) Waits (standing_of past id) (is_some-standing_of past legal.1 id)
is_some-standing_of (Passed r ∷ past) legal id =
    is_some_kept (same_id r.id id) (has_id past id) (Released (length past)) (standing_of past id) (λ e. ap (λ i. has_id past i) (sym (same_id-true r.id id e)) ∙ has_id-waits past r.stamp r.id legal.0.waits) (is_some-standing_of past legal.1 id)

none_from_test : (o : Option Standing) → is_some o ≡ false → o ≡ None
none_from_test None e = refl
none_from_test (Some x) e = absurd (true≢false e)

pub standing_of-new : (past : List Entry) → IsLegalHistory past → (id : Id) → has_id past id ≡ false → standing_of past id ≡ None
standing_of-new past legal id e = none_from_test (standing_of past id) (is_some-standing_of past legal id ∙ e)

-- the commit has no receipt by this standing
abbrev pub HasNoReceipt : Option Standing → Type 0
HasNoReceipt (Some (Released place)) = ⊥
HasNoReceipt _ = Unit {0}

none_if_queued : (b : Bool) (o : Option Receipt) (rest : Option Standing) → (b ≡ true → rest ≡ None) → (HasNoReceipt rest → o ≡ None) → HasNoReceipt (cond b (Some Waits) rest) → o ≡ None
none_if_queued true o rest new before h = before (subst HasNoReceipt (sym (new refl)) tt)
none_if_queued false o rest new before h = before h

none_if_passed : (b : Bool) (r : Receipt) (place : ℕ) (o : Option Receipt) (rest : Option Standing) → (HasNoReceipt rest → o ≡ None) → HasNoReceipt (cond b (Some (Released place)) rest) → cond b (Some r) o ≡ None
none_if_passed true r place o rest before h = absurd h
none_if_passed false r place o rest before h = before h

pub receipt_of-none : (past : List Entry) → IsLegalHistory past → (id : Id) → HasNoReceipt (standing_of past id) → receipt_of past id ≡ None
receipt_of-none [] legal id h = refl
receipt_of-none (Queued other s ∷ past) legal id h =
    none_if_queued (same_id other id) (receipt_of past id) (standing_of past id) (λ e. standing_of-new past legal.1 id (ap (λ i. has_id past i) (sym (same_id-true other id e)) ∙ has_id-new past other s legal.0)) (receipt_of-none past legal.1 id) h
receipt_of-none (Passed r ∷ past) legal id h =
    none_if_passed (same_id r.id id) r (length past) (receipt_of past id) (standing_of past id) (receipt_of-none past legal.1 id) h

-- the receipt of the commit, at this place of the history
pub record IsReceiptAt (past : List Entry) (id : Id) (place : ℕ) : Type 0 where
  pub receipt : Receipt
  pub there : place < length past
  pub is : (d : Entry) → get_or (reverse past) place d ≡ Passed receipt
  pub found : receipt_of past id ≡ Some receipt

reverse-cons : (e : Entry) (past : List Entry) → reverse (e ∷ past) ≡ reverse past ++ e ∷ []
reverse-cons e past = reverse-append (e ∷ []) past

-- it stays at its place while the history grows
read_later : (e : Entry) (past : List Entry) (place : ℕ) (d : Entry) → place < length past → get_or (reverse (e ∷ past)) place d ≡ get_or (reverse past) place d
read_later e past place d there =
    ap (λ (h : List Entry). get_or h place d) (reverse-cons e past) ∙ get_or-append (reverse past) (e ∷ []) d place (omega (arith, there, length-reverse past))

read_last : (e : Entry) (past : List Entry) (d : Entry) → get_or (reverse (e ∷ past)) (length past) d ≡ e
read_last e past d =
    ap (λ (h : List Entry). get_or h (length past) d) (reverse-cons e past) ∙ ap (λ (n : ℕ). get_or (reverse past ++ e ∷ []) n d) (sym (length-reverse past)) ∙ get_or-append_seam (reverse past) e [] d

at_later : (e : Entry) (past : List Entry) (id : Id) (place : ℕ) → receipt_of (e ∷ past) id ≡ receipt_of past id → IsReceiptAt past id place → IsReceiptAt (e ∷ past) id place
at_later e past id place same at = record {
  receipt = at.receipt;
  there = omega (arith, at.there);
  is = λ d. read_later e past place d at.there ∙ at.is d;
  found = same ∙ at.found;
}

at_if_queued : (b : Bool) (rest : Option Standing) (place : ℕ) (P : Type 0) → (rest ≡ Some (Released place) → P) → cond b (Some Waits) rest ≡ Some (Released place) → P
at_if_queued true rest place P before e = absurd cc
at_if_queued false rest place P before e = before e

at_if_passed : (r : Receipt) (past : List Entry) (id : Id) (place : ℕ) (b : Bool) → same_id r.id id ≡ b → (standing_of past id ≡ Some (Released place) → IsReceiptAt past id place) → cond b (Some (Released (length past))) (standing_of past id) ≡ Some (Released place) → IsReceiptAt (Passed r ∷ past) id place
at_if_passed r past id place true is before e =
    let here : length past ≡ place = cc in
    record {
      receipt = r;
      there = omega (arith, here);
      is = λ d. ap (λ (n : ℕ). get_or (reverse (Passed r ∷ past)) n d) (sym here) ∙ read_last (Passed r) past d;
      found = ap (λ (x : Bool). cond x (Some r) (receipt_of past id)) is;
    }
at_if_passed r past id place false is before e =
    at_later (Passed r) past id place (ap (λ (x : Bool). cond x (Some r) (receipt_of past id)) is) (before e)

pub IsReceiptAt-standing_of : (past : List Entry) (id : Id) (place : ℕ) → standing_of past id ≡ Some (Released place) → IsReceiptAt past id place
IsReceiptAt-standing_of [] id place e = absurd cc
IsReceiptAt-standing_of (Queued other s ∷ past) id place e =
    at_if_queued (same_id other id) (standing_of past id) place (IsReceiptAt (Queued other s ∷ past) id place) (λ before. at_later (Queued other s) past id place refl (IsReceiptAt-standing_of past id place before)) e
IsReceiptAt-standing_of (Passed r ∷ past) id place e =
    at_if_passed r past id place _ refl (IsReceiptAt-standing_of past id place) e

-- ---- what a receipt that is found says
abbrev pub SaysOf : List Entry → Id → Option Receipt → Type 0
SaysOf past id o = MatchOption o ((r : Receipt) → Contains (released_of past) r → r.id ≢ id) (λ r. (r.id ≡ id) × Contains (released_of past) r)

says_passed : (past : List Entry) (r : Receipt) (id : Id) (b : Bool) → same_id r.id id ≡ b → (o : Option Receipt) → SaysOf past id o → SaysOf (Passed r ∷ past) id (cond b (Some r) o)
says_passed past r id true e o says = (same_id-true r.id id e, Contains-here r (released_of past))
says_passed past r id false e None says =
    λ other h. ⊎_elim (λ here. λ same. true≢false (sym (eq-same_id r.id id (ap (λ (x : Receipt). x.id) here ∙ same)) ∙ e)) (λ there. says other there) (Contains-cases r (released_of past) other h)
says_passed past r id false e (Some found) says =
    (says.0, Contains-there r (released_of past) found (says.1))

pub SaysOf-receipt_of : (past : List Entry) (id : Id) → SaysOf past id (receipt_of past id)
SaysOf-receipt_of [] id = λ r h. absurd (Contains-nil r h)
SaysOf-receipt_of (Queued other s ∷ past) id = SaysOf-receipt_of past id
SaysOf-receipt_of (Passed r ∷ past) id =
    says_passed past r id _ refl (receipt_of past id) (SaysOf-receipt_of past id)

-- ---- the test of a queueing is the rule
no_fault : (past : List Entry) (id : Id) (stamp : ℕ) (full there_id there_stamp : Bool) → nat_le max_waiting (length (waiting_of past)) ≡ full → has_id past id ≡ there_id → has_stamp past stamp ≡ there_stamp → cond full (Some Full) (cond there_id (Some IdThere) (cond there_stamp (Some StampThere) None)) ≡ None → MayQueue past id stamp
no_fault past id stamp true there_id there_stamp e f g none = absurd (none-some Full (sym none))
no_fault past id stamp false true there_stamp e f g none = absurd (none-some IdThere (sym none))
no_fault past id stamp false false true e f g none = absurd (none-some StampThere (sym none))
no_fault past id stamp false false false e f g none = MayQueue-from_tests past id stamp (leb-false _ _ e) f g

pub first_queue_fault-none-iff : (past : List Entry) (id : Id) (stamp : ℕ) → (first_queue_fault past id stamp ≡ None) ↔ MayQueue past id stamp
first_queue_fault-none-iff past id stamp = (
  λ none. no_fault past id stamp _ _ _ refl refl refl none,
  λ may. first_queue_fault-none past id stamp may.room (has_id-new past id stamp may) (has_stamp-new past id stamp may),
)

-- ---- each fault comes exactly where it is the first
abbrev fault_by : (full there_id there_stamp : Bool) → Option BookFault
fault_by full there_id there_stamp = cond full (Some Full) (cond there_id (Some IdThere) (cond there_stamp (Some StampThere) None))

full_by : (full there_id there_stamp : Bool) → fault_by full there_id there_stamp ≡ Some Full → full ≡ true
full_by true there_id there_stamp e = refl
full_by false true there_stamp e = absurd cc
full_by false false true e = absurd cc
full_by false false false e = absurd cc

id_by : (full there_id there_stamp : Bool) → fault_by full there_id there_stamp ≡ Some IdThere → (full ≡ false) × (there_id ≡ true)
id_by true there_id there_stamp e = absurd cc
id_by false true there_stamp e = (refl, refl)
id_by false false true e = absurd cc
id_by false false false e = absurd cc

stamp_by : (full there_id there_stamp : Bool) → fault_by full there_id there_stamp ≡ Some StampThere → (full ≡ false) × (there_id ≡ false) × (there_stamp ≡ true)
stamp_by true there_id there_stamp e = absurd cc
stamp_by false true there_stamp e = absurd cc
stamp_by false false true e = (refl, refl, refl)
stamp_by false false false e = absurd cc

has_id-not_there : (past : List Entry) (id : Id) → ¬ IsIdThere past id → has_id past id ≡ false
has_id-not_there past id new = ⊎_elim (λ e. absurd (new (there-has_id past id e))) (λ e. e) (cases_Bool (has_id past id))

pub first_queue_fault-full-iff : (past : List Entry) (id : Id) (stamp : ℕ) → (first_queue_fault past id stamp ≡ Some Full) ↔ (max_waiting ≤ length (waiting_of past))
first_queue_fault-full-iff past id stamp = (
  λ e. leb-true _ _ (full_by _ (has_id past id) (has_stamp past stamp) e),
  λ full. fault_at past id stamp true _ _ (le-leb _ _ full) refl refl,
)

pub first_queue_fault-id-iff : (past : List Entry) (id : Id) (stamp : ℕ) → (first_queue_fault past id stamp ≡ Some IdThere) ↔ ((length (waiting_of past) < max_waiting) × IsIdThere past id)
first_queue_fault-id-iff past id stamp = (
  λ e. let is = id_by (nat_le max_waiting (length (waiting_of past))) (has_id past id) (has_stamp past stamp) e in (leb-false _ _ is.0, there-has_id past id is.1),
  λ h. first_queue_fault-id past id stamp h.0 (has_id-there past id h.1),
)

pub first_queue_fault-stamp-iff : (past : List Entry) (id : Id) (stamp : ℕ) → (first_queue_fault past id stamp ≡ Some StampThere) ↔ ((length (waiting_of past) < max_waiting) × (¬ IsIdThere past id) × IsStampThere past stamp)
first_queue_fault-stamp-iff past id stamp = (
  λ e. let is = stamp_by (nat_le max_waiting (length (waiting_of past))) (has_id past id) (has_stamp past stamp) e in
      (leb-false _ _ is.0, λ there. true≢false (sym (has_id-there past id there) ∙ is.1), there-has_stamp past stamp is.2),
  λ h. first_queue_fault-stamp past id stamp h.0 (has_id-not_there past id h.1) (has_stamp-there past stamp h.2),
)
