-- What happens to a commit that waits in the book of a session.
use Rattle.std.proofs.Common.{◌≡◌, ◌≢◌, ℕ, ◌<◌, ◌≤◌, List, [], ◌∷◌, ◌++◌, Contains, Some, None, ◌⊎◌, inl, inr, ⊎_elim, refl, sym, ap, ◌∙◌, subst, arith}
use Rattle.std.proofs.lemmas.Bool.{cases_Bool, cases_lt}
use Rattle.std.proofs.lemmas.List.Elements.{All-contains}
use Rattle.std.proofs.lemmas.Option.{none-some}
use Rattle.tt_stamp.specs.Ids.{same_id}
use Rattle.tt_stamp.specs.History.{waiting_of, release_of, with_receipts, receipt_of, IsLegalHistory, MayFollow, MayQueue, Waits}
use Rattle.tt_stamp.specs.declared.commits.Id.{Id}
use Rattle.tt_stamp.specs.declared.commits.Entry.{Entry}
use Rattle.tt_stamp.specs.declared.commits.Entry.TheVariants.{Queued, Passed}
use Rattle.tt_stamp.specs.declared.commits.Receipt.{Receipt}
use Rattle.tt_stamp.proofs.Histories.{HasNoReceipt, has_id-new, standing_of-new, receipt_of-none}
use Rattle.tt_stamp.proofs.Ids.{same_id-true, Contains-here, Contains-there, Contains-nil, Contains-cases}
use Rattle.tt_stamp.proofs.Laws.{IsRelease-release_of, IsLegalHistory-release}
use Rattle.tt_stamp.proofs.Waits.{Waits-from_replay, replay-from_Waits}
use Rattle.tt_connections.specs.Station.{page_if, book_before}

-- ---- the page that a commit is queued into
page_legal : (waiting : List (ℕ × Id)) (book : List Entry) → IsLegalHistory book → IsLegalHistory (page_if waiting book)
page_legal [] book legal = tt
page_legal (commit ∷ waiting) book legal = legal

page_kept : (waiting : List (ℕ × Id)) (book : List Entry) (commit : ℕ × Id) → Contains waiting commit → page_if waiting book ≡ book
page_kept [] book commit there = absurd (Contains-nil commit there)
page_kept (first ∷ waiting) book commit there = refl

pub legal-before : (book : List Entry) → IsLegalHistory book → IsLegalHistory (book_before book)
legal-before book legal = page_legal (waiting_of book) book legal

pub before-kept : (book : List Entry) (id : Id) (stamp : ℕ) → IsLegalHistory book → Waits book id stamp → book_before book ≡ book
before-kept book id stamp legal waits =
    page_kept (waiting_of book) book (stamp, id) (replay-from_Waits book legal id stamp waits)

-- ---- one entry more
not_passed : (id : Id) (stamp : ℕ) (receipt : Receipt) → ◌≡◌ {A = Entry} (Queued id stamp) (Passed receipt) → ⊥
not_passed id stamp receipt is = cc

same_receipt : (one other : Receipt) → ◌≡◌ {A = Entry} (Passed one) (Passed other) → one ≡ other
same_receipt one other is = cc

pub waits-queued : (book : List Entry) (id other : Id) (stamp t : ℕ) → Waits book id stamp → Waits (Queued other t ∷ book) id stamp
waits-queued book id other stamp t waits = record {
  later = Queued other t ∷ waits.later;
  before = waits.before;
  queued = ap (λ (past : List Entry). Queued other t ∷ past) waits.queued;
  not_released = λ receipt there. ⊎_elim (λ here. absurd (not_passed other t receipt here)) (λ more. waits.not_released receipt more) (Contains-cases (Queued other t) waits.later (Passed receipt) there);
}

pub waits-first : (book : List Entry) (id : Id) (stamp : ℕ) → Waits (Queued id stamp ∷ book) id stamp
waits-first book id stamp = record { later = []; before = book; queued = refl; not_released = λ receipt there. absurd (Contains-nil _ there) }

waits-passed : (book : List Entry) (id : Id) (stamp : ℕ) (receipt : Receipt) → receipt.id ≢ id → Waits book id stamp → Waits (Passed receipt ∷ book) id stamp
waits-passed book id stamp receipt apart waits = record {
  later = Passed receipt ∷ waits.later;
  before = waits.before;
  queued = ap (λ (past : List Entry). Passed receipt ∷ past) waits.queued;
  not_released = λ other there. ⊎_elim (λ here. λ same. apart (ap (λ (r : Receipt). r.id) (same_receipt receipt other here) ∙ same)) (λ more. waits.not_released other more) (Contains-cases (Passed receipt) waits.later (Passed other) there);
}

waits-receipts : (receipts : List Receipt) (book : List Entry) (id : Id) (stamp : ℕ) → ((receipt : Receipt) → Contains receipts receipt → receipt.id ≢ id) → Waits book id stamp → Waits (with_receipts receipts book) id stamp
waits-receipts [] book id stamp apart waits = waits
waits-receipts (receipt ∷ receipts) book id stamp apart waits =
    waits-receipts receipts (Passed receipt ∷ book) id stamp (λ other there. apart other (Contains-there receipt receipts other there)) (waits-passed book id stamp receipt (apart receipt (Contains-here receipt receipts)) waits)

-- ---- a commit is queued once
contains_at : (later before : List Entry) (entry : Entry) → Contains (later ++ entry ∷ before) entry
contains_at [] before entry = Contains-here entry before
contains_at (first ∷ later) before entry = Contains-there first (later ++ entry ∷ before) entry (contains_at later before entry)

queued_there : (book : List Entry) (id : Id) (stamp : ℕ) → Waits book id stamp → Contains book (Queued id stamp)
queued_there book id stamp waits =
    subst (λ (past : List Entry). Contains past (Queued id stamp)) (sym waits.queued) (contains_at waits.later waits.before (Queued id stamp))

same_stamp : (id : Id) (s t : ℕ) (entry : Entry) → entry ≡ Queued id s → entry ≡ Queued id t → s ≡ t
same_stamp id s t entry one other = cc

queued_new : (entry : Entry) (book : List Entry) (id : Id) (s t : ℕ) → MayFollow book entry → entry ≡ Queued id s → Contains book (Queued id t) → ⊥
queued_new entry book id s t may is there =
    let queues : MayQueue book id s = subst (λ (e : Entry). MayFollow book e) is may in
    queues.new_id (t, there)

queued_once : (book : List Entry) → IsLegalHistory book → (id : Id) (s t : ℕ) → Contains book (Queued id s) → Contains book (Queued id t) → s ≡ t
queued_once [] legal id s t one other = absurd (Contains-nil _ one)
queued_once (entry ∷ book) legal id s t one other =
    ⊎_elim
    (λ here. ⊎_elim
    (λ here_too. same_stamp id s t entry here here_too)
    (λ there. absurd (queued_new entry book id s t legal.0 here there))
    (Contains-cases entry book (Queued id t) other))
    (λ there. ⊎_elim
    (λ here. absurd (queued_new entry book id t s legal.0 here there))
    (λ there_too. queued_once book legal.1 id s t there there_too)
    (Contains-cases entry book (Queued id t) other))
    (Contains-cases entry book (Queued id s) one)

-- ---- a release: what waits still waits, or its stamp lies below the earliest
pub waits-release : (book : List Entry) (earliest : ℕ) → IsLegalHistory book → (id : Id) (stamp : ℕ) → Waits book id stamp → Waits (with_receipts (release_of (waiting_of book) earliest) book) id stamp ⊎ (stamp < earliest)
waits-release book earliest legal id stamp waits =
    let P : Receipt → Type 0 = λ receipt. (receipt.earliest ≡ earliest) × (receipt.stamp < earliest) × Contains (waiting_of book) (receipt.stamp, receipt.id) in
    let apart : earliest ≤ stamp → (receipt : Receipt) → Contains (release_of (waiting_of book) earliest) receipt → receipt.id ≢ id = λ late receipt there same.
    let right : P receipt = All-contains P (release_of (waiting_of book) earliest) receipt (IsRelease-release_of book earliest).each there in
    let waits_too : Waits book receipt.id receipt.stamp = Waits-from_replay book legal receipt.id receipt.stamp right.2 in
    let queued_too : Contains book (Queued id receipt.stamp) = subst (λ (i : Id). Contains book (Queued i receipt.stamp)) same (queued_there book receipt.id receipt.stamp waits_too) in
    let once : receipt.stamp ≡ stamp = queued_once book legal id receipt.stamp stamp queued_too (queued_there book id stamp waits) in
    let below : receipt.stamp < earliest = right.1 in
    omega (arith, once, below, late) in
    ⊎_elim (λ below. inr below) (λ late. inl (waits-receipts (release_of (waiting_of book) earliest) book id stamp (apart late) waits)) (cases_lt stamp earliest)

-- ---- a commit that waits has no receipt
receipt_none : (book : List Entry) (id : Id) (stamp : ℕ) → IsLegalHistory book → MayQueue book id stamp → receipt_of book id ≡ None
receipt_none book id stamp legal may =
    receipt_of-none book legal id (subst HasNoReceipt (sym (standing_of-new book legal id (has_id-new book id stamp may))) tt)

no_receipt_at : (later before : List Entry) (id : Id) (stamp : ℕ) → IsLegalHistory (later ++ Queued id stamp ∷ before) → ((receipt : Receipt) → Contains later (Passed receipt) → receipt.id ≢ id) → (receipt : Receipt) → receipt_of (later ++ Queued id stamp ∷ before) id ≡ Some receipt → ⊥
no_receipt_at [] before id stamp legal kept receipt found =
    none-some receipt (sym (receipt_none before id stamp legal.1 legal.0) ∙ found)
no_receipt_at (Queued other t ∷ later) before id stamp legal kept receipt found =
    no_receipt_at later before id stamp legal.1 (λ r there. kept r (Contains-there (Queued other t) later (Passed r) there)) receipt found
no_receipt_at (Passed first ∷ later) before id stamp legal kept receipt found =
    ⊎_elim
    (λ same. kept first (Contains-here (Passed first) later) (same_id-true first.id id same))
    (λ other. no_receipt_at later before id stamp legal.1 (λ r there. kept r (Contains-there (Passed first) later (Passed r) there)) receipt (rw other at found))
    (cases_Bool (same_id first.id id))

pub waits-no_receipt : (book : List Entry) (id : Id) (stamp : ℕ) → IsLegalHistory book → Waits book id stamp → (receipt : Receipt) → receipt_of book id ≡ Some receipt → ⊥
waits-no_receipt book id stamp legal waits receipt found =
    no_receipt_at waits.later waits.before id stamp (subst IsLegalHistory waits.queued legal) waits.not_released receipt (subst (λ (past : List Entry). receipt_of past id ≡ Some receipt) waits.queued found)

-- ---- what a call leaves of the book: it stays legal, and a commit that waited waits, or its stamp lies below this time
pub record Keeps (old new : List Entry) (time : ℕ) : Type 0 where
  pub legal : IsLegalHistory new
  pub waits : (id : Id) (stamp : ℕ) → Waits old id stamp → Waits new id stamp ⊎ (stamp < time)

pub keeps-same : (old new : List Entry) (time : ℕ) → IsLegalHistory old → new ≡ old → Keeps old new time
keeps-same old new time legal is = subst (λ (book : List Entry). Keeps old book time) (sym is) (record { legal = legal; waits = λ id stamp waits. inl waits })

pub keeps-page : (old new : List Entry) (time : ℕ) → IsLegalHistory old → new ≡ book_before old → Keeps old new time
keeps-page old new time legal is =
    subst (λ (book : List Entry). Keeps old book time) (sym is) (record {
      legal = legal-before old legal;
      waits = λ id stamp waits. inl (subst (λ (book : List Entry). Waits book id stamp) (sym (before-kept old id stamp legal waits)) waits);
    })

pub keeps-queued : (old new : List Entry) (time : ℕ) (other : Id) (t : ℕ) → IsLegalHistory old → MayQueue (book_before old) other t → new ≡ Queued other t ∷ book_before old → Keeps old new time
keeps-queued old new time other t legal may is =
    subst (λ (book : List Entry). Keeps old book time) (sym is) (record {
      legal = (may, legal-before old legal);
      waits = λ id stamp waits. inl (waits-queued (book_before old) id other stamp t (subst (λ (book : List Entry). Waits book id stamp) (sym (before-kept old id stamp legal waits)) waits));
    })

pub keeps-release : (old new : List Entry) (time earliest : ℕ) → IsLegalHistory old → earliest ≤ time → new ≡ with_receipts (release_of (waiting_of old) earliest) old → Keeps old new time
keeps-release old new time earliest legal past is =
    subst (λ (book : List Entry). Keeps old book time) (sym is) (record {
      legal = IsLegalHistory-release old earliest legal;
      waits = λ id stamp waits. ⊎_elim (λ still. inl still) (λ below. inr (omega (arith, below, past))) (waits-release old earliest legal id stamp waits);
    })
