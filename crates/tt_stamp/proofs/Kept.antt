-- What a book keeps beside its history, step by step.
use Rattle.std.proofs.Common.{◌≡◌, ℕ, ◌+◌, ◌<◌, ◌≤◌, ◌==◌, ◌||◌, cond, Bool, true, false, List, [], ◌∷◌, ◌++◌, length, reverse, get_or, All, Contains, Option, Some, None, is_some, IfNone, Result, Ok, Err, is_err, OnOk, OnErr, vec_len, vec_capacity, sym, ap, ◌∙◌, subst, arith}
use Rattle.std.proofs.lemmas.Bool.{true≢false, false≢true}
use Rattle.std.proofs.lemmas.List.{reverse-append, reverse-reverse, length-reverse}
use Rattle.std.specs.VecDeque.{deque_len}
use Rattle.std.specs.BTreeMap.{insert_entry}
use Rattle.std.specs.List.{insert}
use Rattle.std.specs.List.Sorted.{IsNonDecreasing}
use Rattle.std.specs.Map.{remove_entry}
use Rattle.std.specs.Ordering.{nat_cmp}
use Rattle.tt_stamp.specs.Ids.{same_id}
use Rattle.tt_stamp.specs.Standings.{IsInOrder, standing_in}
use Rattle.tt_stamp.specs.History.{waiting_of, has_id, has_stamp, IsLegalHistory, IsNextReceipt, MayQueue, receipt_of}
use Rattle.tt_stamp.specs.Book.{standing_of, history_of, is_among, IsPlaceOf, IsBook}
use Rattle.tt_stamp.specs.declared.books.Book.TheInside.{Inside}
use Rattle.tt_stamp.specs.declared.commits.Id.{Id}
use Rattle.tt_stamp.specs.declared.commits.Receipt.{Receipt}
use Rattle.tt_stamp.specs.declared.commits.Entry.{Entry}
use Rattle.tt_stamp.specs.declared.commits.Entry.TheVariants.{Queued, Passed}
use Rattle.tt_stamp.specs.declared.commits.Standing.{Standing}
use Rattle.tt_stamp.specs.declared.commits.Standing.TheVariants.{Waits, Released}
use Rattle.tt_stamp.proofs.Waiting.{Ascends}
use Rattle.tt_stamp.proofs.Histories.{is_some-standing_of, HasNoReceipt, receipt_of-none, IsReceiptAt-standing_of, Ascends-waiting_of}
use Rattle.tt_stamp.proofs.Releases.{head_is_least, remove_entry-head}
use Rattle.tt_stamp.proofs.Places.{is_among-insert}

-- ---- a book that is kept, after each kind of change
pub reverse-push : (xs : List Entry) (e : Entry) → reverse (xs ++ e ∷ []) ≡ e ∷ reverse xs
reverse-push xs e = reverse-append xs (e ∷ [])

-- nothing that counts has changed
pub IsBook-refused : (b n : Inside) → IsBook b → n.history.items ≡ b.history.items → n.waiting.items ≡ b.waiting.items → IsInOrder n.standings → ((q : Id) → standing_in n.standings q ≡ standing_in b.standings q) → n.stamps.items ≡ b.stamps.items → vec_len n.history + deque_len n.waiting ≤ vec_capacity n.history → IsBook n
IsBook-refused b n kept history waiting standings stands stamps room =
    let same : history_of b ≡ history_of n = sym (ap reverse history) in
    record {
      legal = subst IsLegalHistory same kept.legal;
      waits = waiting ∙ kept.waits ∙ ap waiting_of same;
      standings = standings;
      stands = λ q. stands q ∙ kept.stands q ∙ ap (λ h. standing_of h q) same;
      stamps = λ q. ap (λ ss. is_among ss q) stamps ∙ kept.stamps q ∙ ap (λ h. has_stamp h q) same;
      in_order = subst IsNonDecreasing (sym stamps) kept.in_order;
      room = room;
    }

-- a commit was queued
pub IsBook-queued : (b n : Inside) (id : Id) (stamp place : ℕ) → IsBook b → MayQueue (history_of b) id stamp → n.history.items ≡ b.history.items ++ Queued id stamp ∷ [] → n.waiting.items ≡ insert_entry nat_cmp b.waiting.items stamp id → IsInOrder n.standings → ((q : Id) → standing_in n.standings q ≡ cond (same_id id q) (Some Waits) (standing_in b.standings q)) → IsPlaceOf b.stamps.items stamp place → n.stamps.items ≡ insert b.stamps.items place stamp → vec_len n.history + deque_len n.waiting ≤ vec_capacity n.history → IsBook n
IsBook-queued b n id stamp place kept may history waiting standings stands goes stamps room =
    let past : List Entry = history_of b in
    let now : Queued id stamp ∷ past ≡ history_of n = sym (ap reverse history ∙ reverse-push b.history.items (Queued id stamp)) in
    record {
      legal = subst IsLegalHistory now (may, kept.legal);
      waits = waiting ∙ ap (λ (w : List (ℕ × Id)). insert_entry nat_cmp w stamp id) kept.waits ∙ ap waiting_of now;
      standings = standings;
      stands = λ q. stands q ∙ ap (cond (same_id id q) (Some Waits)) (kept.stands q) ∙ ap (λ h. standing_of h q) now;
      stamps = λ q. ap (λ ss. is_among ss q) stamps ∙ is_among-insert b.stamps.items place stamp q ∙ ap (λ b. (stamp == q) || b) (kept.stamps q) ∙ ap (λ h. has_stamp h q) now;
      in_order = subst IsNonDecreasing (sym stamps) goes.in_order;
      room = room;
    }

-- a commit was released
pub IsBook-passed : (b n : Inside) (r : Receipt) (first : ℕ × Id) (place : ℕ) → IsBook b → IsNextReceipt (history_of b) r → n.history.items ≡ b.history.items ++ Passed r ∷ [] → b.waiting.items ≡ first ∷ n.waiting.items → IsInOrder n.standings → ((q : Id) → standing_in n.standings q ≡ cond (same_id r.id q) (Some (Released place)) (standing_in b.standings q)) → place ≡ vec_len b.history → n.stamps ≡ b.stamps → vec_len n.history + deque_len n.waiting ≤ vec_capacity n.history → IsBook n
IsBook-passed b n r first place kept next history waiting standings stands last stamps room =
    let now : Passed r ∷ history_of b ≡ history_of n = sym (ap reverse history ∙ reverse-push b.history.items (Passed r)) in
    let waits : first ∷ n.waiting.items ≡ waiting_of (history_of b) = sym waiting ∙ kept.waits in
    let as_long : place ≡ length (history_of b) = omega (arith, last, length-reverse b.history.items) in
    let is = head_is_least first n.waiting.items r.stamp r.id (subst Ascends (sym waits) (Ascends-waiting_of (history_of b))) (subst (λ (w : List (ℕ × Id)). Contains w (r.stamp, r.id)) (sym waits) next.waits) (subst (λ (w : List (ℕ × Id)). All (λ (c : ℕ × Id). r.stamp ≤ c.0) w) (sym waits) next.least) in
    record {
      legal = subst IsLegalHistory now (next, kept.legal);
      waits = sym (remove_entry-head first n.waiting.items r.stamp r.id is) ∙ ap (remove_entry (λ s. r.stamp == s)) waits ∙ ap waiting_of now;
      standings = standings;
      stands = λ q. stands q ∙ ap (cond (same_id r.id q) (Some (Released place))) (kept.stands q) ∙ ap (λ (n : ℕ). cond (same_id r.id q) (Some (Released n)) (standing_of (history_of b) q)) as_long ∙ ap (λ h. standing_of h q) now;
      stamps = λ q. ap (λ ss. is_among ss.items q) stamps ∙ kept.stamps q ∙ ap (λ h. has_stamp h q) now;
      in_order = subst (λ ss. IsNonDecreasing ss.items) (sym stamps) kept.in_order;
      room = room;
    }

-- ---- what a call answered
pub on_err : {T E : Type 0} (r : Result T E) (P : Type 0) → is_err r ≡ true → OnErr r P → P
on_err (Ok x) P e h = absurd (false≢true e)
on_err (Err x) P e h = h

pub on_ok : {T E : Type 0} (r : Result T E) (P : Type 0) → is_err r ≡ false → OnOk r P → P
on_ok (Ok x) P e h = h
on_ok (Err x) P e h = absurd (true≢false e)

-- what fails only where there is no room, where there is room
pub on_succeeded : {T E : Type 0} (r : Result T E) (P : Type 0) {len capacity : ℕ} → OnErr r (capacity ≤ len) → len < capacity → OnOk r P → P
on_succeeded (Ok x) P full room h = h
on_succeeded (Err x) P full room h = absurd (omega (arith, full, room))

-- ---- what a look-up says of the history
pub has_id-looked_up : (b : Inside) (now : List Entry) (id : Id) (result answer : Bool) → IsBook b → history_of b ≡ now → result ≡ is_some (standing_in b.standings id) → result ≡ answer → has_id now id ≡ answer
has_id-looked_up b now id result answer kept is looked e =
    ap (λ h. has_id h id) (sym is) ∙ sym (is_some-standing_of (history_of b) kept.legal id) ∙ ap is_some (sym (kept.stands id)) ∙ sym looked ∙ e

pub has_stamp-looked_up : (b : Inside) (now : List Entry) (stamp : ℕ) (stamps : List ℕ) (answer : Bool) → IsBook b → history_of b ≡ now → stamps ≡ b.stamps.items → is_among stamps stamp ≡ answer → has_stamp now stamp ≡ answer
has_stamp-looked_up b now stamp stamps answer kept is looked e =
    ap (λ h. has_stamp h stamp) (sym is) ∙ sym (kept.stamps stamp) ∙ ap (λ ss. is_among ss stamp) (sym looked) ∙ e

-- what a standing that was looked up says of the receipt
pub receipt_of-looked_up : (b : Inside) (now : List Entry) (id : Id) (found : Option Standing) → IsBook b → history_of b ≡ now → found ≡ standing_in b.standings id → HasNoReceipt found → receipt_of now id ≡ None
receipt_of-looked_up b now id found kept is looked none =
    ap (λ h. receipt_of h id) (sym is) ∙ receipt_of-none (history_of b) kept.legal id (subst HasNoReceipt (looked ∙ kept.stands id) none)

-- the receipt that stands at a place that was looked up
pub record IsReceiptKept (b : Inside) (now : List Entry) (id : Id) (place : ℕ) : Type 0 where
  pub receipt : Receipt
  pub there : place < vec_len b.history
  pub is : (d : Entry) → get_or b.history.items place d ≡ Passed receipt
  pub found : receipt_of now id ≡ Some receipt

pub IsReceiptKept-looked_up : (b : Inside) (now : List Entry) (id : Id) (place : ℕ) → IsBook b → history_of b ≡ now → Some (Released place) ≡ standing_in b.standings id → IsReceiptKept b now id place
IsReceiptKept-looked_up b now id place kept is looked =
    let at = IsReceiptAt-standing_of (history_of b) id place (sym (kept.stands id) ∙ sym looked) in
    record {
      receipt = at.receipt;
      there = omega (arith, at.there, length-reverse b.history.items);
      is = λ d. ap (λ (h : List Entry). get_or h place d) (sym (reverse-reverse b.history.items)) ∙ at.is d;
      found = ap (λ h. receipt_of h id) (sym is) ∙ at.found;
    }

pub IfNone-from : {X : Type 0} (o : Option X) (P : Type 0) → P → IfNone o P
IfNone-from None P p = p
IfNone-from (Some x) P p = tt
