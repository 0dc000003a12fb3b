-- What the workers of a node say of their commits, in true time.
use Rattle.std.proofs.Common.{◌≡◌, ℕ, zero, suc, ◌<◌, ◌≤◌, List, [], ◌∷◌, ◌++◌, Bool, true, false, Option, Some, None, Result, Ok, Err, ⊎_elim, refl, sym, ap, ◌∙◌, subst, arith, All, Contains, append_assoc}
use Rattle.std.specs.Prelude.{IfOk, IfSome, if◌then◌else◌, is_some}
use Rattle.std.proofs.lemmas.Option.{same_Some, none-some}
use Rattle.std.proofs.lemmas.List.Elements.{All-contains, Contains-append_right}
use Rattle.tt_span.specs.Interval.{Interval, Holds}
use Rattle.tt_judge.specs.declared.history.Commit.{Commit}
use Rattle.tt_judge.specs.Consistency.{IsConsistent}
use Rattle.tt_publish.specs.declared.faults.ReadFault.{ReadFault}
use Rattle.tt_stamp.specs.Ids.{same_id}
use Rattle.tt_stamp.specs.History.{IsLegalHistory, Waits, receipt_of, release_of, waiting_of, with_receipts}
use Rattle.tt_stamp.specs.Steps.{Stamps, begun_by}
use Rattle.tt_stamp.specs.declared.commits.Id.{Id}
use Rattle.tt_stamp.specs.declared.commits.Entry.{Entry}
use Rattle.tt_stamp.specs.declared.commits.Entry.TheVariants.{Queued, Passed}
use Rattle.tt_stamp.specs.declared.commits.Receipt.{Receipt}
use Rattle.tt_stamp.specs.declared.faults.BeginFault.{BeginFault}
use Rattle.tt_stamp.specs.declared.faults.StampFault.{StampFault}
use Rattle.tt_stamp.proofs.Ids.{same_id-true, Contains-here, Contains-there, Contains-cases, Contains-nil}
use Rattle.tt_stamp.proofs.Waits.{Waits-from_replay}
use Rattle.tt_node.specs.SharedBooks.{GoesOn}
use Rattle.tt_session.specs.Conversation.{Conversation}
use Rattle.tt_session.specs.declared.calls.Call.{Call}
use Rattle.tt_session.specs.declared.calls.Call.TheVariants as call
use Rattle.tt_node.specs.Working.{WorkerState, AnswersBegun, BeginsAt as BeginsBy, PassesAt, DoesWhere, PassesGate, Reads, Commits, Releases, Allows, after_asking}
use Rattle.tt_consistency.specs.Timed.{CallTimes, times_at}
use Rattle.tt_consistency.specs.Order.{BeginsAt, ReleasesAt, IsCommitted, IsSeen, IsWithin}
use Rattle.tt_consistency.proofs.Walking.{ordered-at}
use Rattle.tt_consistency.proofs.Judging.{within-consistent}
use Rattle.tt_consistency.proofs.Reading.{look-holds}
use Rattle.tt_consistency.specs.Running.{Machine, IsRunning, clock_moments, published_by}
use Rattle.tt_consistency.specs.Worked.{Look, look_of, look_of_now, look_of_begin, look_of_pass, look_in, look_at, LooksOn, AllLookOn, TimedWorker, WasRead, BookIsOf, Node, ServesOn, IsWorking, IsSeenAtWorkerOf}
use Rattle.tt_consistency.proofs.Holding.{publications-hold}

-- ---- a book that goes on
goes-same : (old new : List Entry) → new ≡ old → GoesOn old new
goes-same old new same = ([], same)

goes-both : (old mid new : List Entry) → GoesOn old mid → GoesOn mid new → GoesOn old new
goes-both old mid new first second =
    (second.0 ++ first.0, second.1 ∙ ap (λ (book : List Entry). second.0 ++ book) first.1 ∙ sym (append_assoc second.0 first.0 old))

goes-receipts : (receipts : List Receipt) (past : List Entry) → GoesOn past (with_receipts receipts past)
goes-receipts [] past = ([], refl)
goes-receipts (receipt ∷ receipts) past =
    goes-both past (Passed receipt ∷ past) (with_receipts receipts (Passed receipt ∷ past)) (Passed receipt ∷ [], refl) (goes-receipts receipts (Passed receipt ∷ past))

contains-later : (old new : List Entry) (entry : Entry) → GoesOn old new → Contains old entry → Contains new entry
contains-later old new entry goes there =
    subst (λ (book : List Entry). Contains book entry) (sym goes.1) (Contains-append_right goes.0 old entry there)

-- ---- a receipt of a legal history
-- the commit of a receipt: it was queued with its stamp, which is below the earliest
pub record IsReceipt (book : List Entry) (id : Id) (receipt : Receipt) : Type 0 where
  pub queued : Contains book (Queued id receipt.stamp)
  pub passed : Contains book (Passed receipt)
  pub sure : receipt.stamp < receipt.earliest

was-queued : (past : List Entry) (id : Id) (stamp : ℕ) → Waits past id stamp → Contains past (Queued id stamp)
was-queued past id stamp waits =
    subst (λ (book : List Entry). Contains book (Queued id stamp)) (sym waits.queued) (Contains-append_right waits.later (Queued id stamp ∷ waits.before) (Queued id stamp) (Contains-here (Queued id stamp) waits.before))

receipt-there : (entry : Entry) (past : List Entry) (id : Id) (receipt : Receipt) → IsReceipt past id receipt → IsReceipt (entry ∷ past) id receipt
receipt-there entry past id receipt is = record {
  queued = Contains-there entry past (Queued id receipt.stamp) is.queued;
  passed = Contains-there entry past (Passed receipt) is.passed;
  sure = is.sure;
}

receipt-passed : (first : Receipt) (past : List Entry) (id : Id) (receipt : Receipt) (same : Bool) → same_id first.id id ≡ same → IsLegalHistory (Passed first ∷ past) → (receipt_of past id ≡ Some receipt → IsReceipt past id receipt)
    → (if same then Some first else receipt_of past id) ≡ Some receipt → IsReceipt (Passed first ∷ past) id receipt
receipt-passed first past id receipt true is legal later found =
    let at : first.id ≡ id = same_id-true first.id id is in
    let queued : Contains past (Queued first.id first.stamp) = was-queued past first.id first.stamp (Waits-from_replay past legal.1 first.id first.stamp legal.0.waits) in
    let one : IsReceipt (Passed first ∷ past) id first = record {
      queued = Contains-there (Passed first) past (Queued id first.stamp) (subst (λ (i : Id). Contains past (Queued i first.stamp)) at queued);
      passed = Contains-here (Passed first) past;
      sure = legal.0.sure;
    } in
    subst (λ (r : Receipt). IsReceipt (Passed first ∷ past) id r) (same_Some first receipt found) one
receipt-passed first past id receipt false is legal later found = receipt-there (Passed first) past id receipt (later found)

receipt-found : (book : List Entry) (id : Id) (receipt : Receipt) → IsLegalHistory book → receipt_of book id ≡ Some receipt → IsReceipt book id receipt
receipt-found [] id receipt legal found = absurd (none-some _ found)
receipt-found (Queued other stamp ∷ past) id receipt legal found = receipt-there (Queued other stamp) past id receipt (receipt-found past id receipt legal.1 found)
receipt-found (Passed first ∷ past) id receipt legal found =
    receipt-passed first past id receipt (same_id first.id id) refl legal (receipt-found past id receipt legal.1) found

-- a commit is queued once
queued-once : (book : List Entry) (id : Id) (one other : ℕ) → IsLegalHistory book → Contains book (Queued id one) → Contains book (Queued id other) → one ≡ other
queued-once [] id one other legal first second = absurd (Contains-nil (Queued id one) first)
queued-once (Passed receipt ∷ past) id one other legal first second =
    ⊎_elim (λ here. absurd (cc)) (λ there. ⊎_elim (λ here. absurd (cc)) (λ also. queued-once past id one other legal.1 there also) (Contains-cases (Passed receipt) past (Queued id other) second)) (Contains-cases (Passed receipt) past (Queued id one) first)
queued-once (Queued i stamp ∷ past) id one other legal first second =
    ⊎_elim
    (λ here. ⊎_elim
    (λ also. cc)
    (λ there. let same : i ≡ id = cc in absurd (legal.0.new_id (other, subst (λ (j : Id). Contains past (Queued j other)) (sym same) there)))
    (Contains-cases (Queued i stamp) past (Queued id other) second))
    (λ there. ⊎_elim
    (λ also. let same : i ≡ id = cc in absurd (legal.0.new_id (one, subst (λ (j : Id). Contains past (Queued j one)) (sym same) there)))
    (λ also. queued-once past id one other legal.1 there also)
    (Contains-cases (Queued i stamp) past (Queued id other) second))
    (Contains-cases (Queued i stamp) past (Queued id one) first)

-- the stamp of a commit that has a receipt is below its earliest
below-earliest : (book : List Entry) (id : Id) (stamp : ℕ) (receipt : Receipt) → IsLegalHistory book → Contains book (Queued id stamp) → receipt_of book id ≡ Some receipt → Contains book (Passed receipt) × (stamp < receipt.earliest)
below-earliest book id stamp receipt legal queued found =
    let is = receipt-found book id receipt legal found in
    let same = queued-once book id stamp receipt.stamp legal queued is.queued in
    (is.passed, omega (arith, is.sure, same))

-- ---- what a begin answers
abbrev id_of : {C G : Type 0} → WorkerState C G → ℕ → Id
id_of worker number = record { session = worker.session; number = number }

begun-book : (id : Id) (old : List Entry) (begun : Result ℕ BeginFault) (answer : Result ℕ ℕ) (new : List Entry) → AnswersBegun id old begun answer new → GoesOn old new
begun-book id old (Ok stamp) (Ok given) new (same, legal, (past, goes, none, is)) = goes-both old past new goes (Queued id stamp ∷ [], is)
begun-book id old (Ok stamp) (Err number) new (goes, legal, rest) = goes
begun-book id old (Err fault) answer new (is, same) = goes-same old new same

begun-queued : (id : Id) (old : List Entry) (begun : Result ℕ BeginFault) (stamp : ℕ) (new : List Entry) → AnswersBegun id old begun (Ok stamp) new → (begun ≡ Ok stamp) × Contains new (Queued id stamp)
begun-queued id old (Ok other) stamp new (same, legal, (past, goes, none, is)) = (
  ap (λ (n : ℕ). let b : Result ℕ BeginFault = Ok n in b) (sym same),
  subst (λ (book : List Entry). Contains book (Queued id stamp)) (sym is) (subst (λ (n : ℕ). Contains (Queued id n ∷ past) (Queued id stamp)) same (Contains-here (Queued id stamp) past)),
)
begun-queued id old (Err fault) stamp new (is, same) = absurd (cc)

stamped-as : (stamped : Result ℕ StampFault) (stamp : ℕ) → begun_by stamped ≡ Ok stamp → stamped ≡ Ok stamp
stamped-as (Ok other) stamp is = cc
stamped-as (Err fault) stamp is = absurd (cc)

module _ {C G : Type 0} (gives : C → Option ℕ → C → Type 0) (failed : C → ℕ) (says : G → ℕ → ℕ → Bool → G → Type 0) (hears : G → ℕ → ℕ → G → Type 0) where
  -- ---- the book and the session of a call
  pub record GoesOnFrom (before after : WorkerState C G) : Type 0 where
    pub book : GoesOn before.book after.book
    pub session : after.session ≡ before.session

  from-same : (before after : WorkerState C G) → after ≡ before → GoesOnFrom before after
  from-same before after same = record { book = goes-same before.book after.book (ap (λ (w : WorkerState C G). w.book) same); session = ap (λ (w : WorkerState C G). w.session) same }

  from-where : {A : Type 0} (passes : Bool) (Does : WorkerState C G → Result A ℕ → WorkerState C G → Type 0) (before : WorkerState C G) (answer : Result A ℕ) (after : WorkerState C G)
      → (Does before answer after → GoesOnFrom before after) → DoesWhere passes Does before answer after → GoesOnFrom before after
  from-where true Does before answer after each does = each does.1
  from-where false Does before answer after each does = from-same before after does.1

  from-gate : {A : Type 0} (Does : WorkerState C G → Result A ℕ → WorkerState C G → Type 0) (before : WorkerState C G) (answer : Result A ℕ) (after : WorkerState C G)
      → ((b a : WorkerState C G) → Does b answer a → GoesOnFrom b a) → PassesGate says hears Does before answer after → GoesOnFrom before after
  from-gate Does before answer after each p =
      let done = from-where p.passes Does (after_asking before p.asked) answer p.done (each (after_asking before p.asked) p.done) p.does in
      record {
        book = subst (λ (book : List Entry). GoesOn before.book book) (sym (ap (λ (w : WorkerState C G). w.book) p.kept)) done.book;
        session = ap (λ (w : WorkerState C G). w.session) p.kept ∙ done.session;
      }

  from-passes : (number : ℕ) (answer : Result Bool ℕ) (looked : Result Interval ReadFault) (before after : WorkerState C G) → PassesAt number before looked answer after → GoesOn before.book after.book
  from-passes number answer (Ok reading) before after (legal, (past, goes, is), told) =
      goes-both before.book past after.book goes (subst (λ (book : List Entry). GoesOn past book) (sym is) (goes-receipts (release_of (waiting_of past) reading.lo) past))
  from-passes number answer (Err fault) before after (told, same) = goes-same before.book after.book same

  from-call : (before : WorkerState C G) (of : Call) (after : WorkerState C G) → Allows gives failed says hears before of after → GoesOnFrom before after
  from-call before (call.Now answer) after allowed =
      from-gate _ before answer after (λ b a does. record { book = goes-same b.book a.book does.book; session = does.works.session }) allowed
  from-call before (call.Begin number floor answer) after allowed =
      from-gate _ before answer after (λ b a does. record { book = begun-book (id_of b number) b.book does.begins.2.0 answer a.book does.begins.2.2; session = does.works.session }) allowed
  from-call before (call.Lease lo hi answer) after allowed = from-same before after allowed.1
  from-call before (call.Pass number answer) after allowed =
      from-gate _ before answer after (λ b a does. record { book = from-passes number answer does.passes.0 b a does.passes.2; session = does.works.session }) allowed

  -- ---- a commit that began
  begun-late : (number floor stamp time : ℕ) (looked : Result Interval ReadFault) (before after : WorkerState C G) → BeginsBy number floor before looked (Ok stamp) after → IfOk looked (λ reading. Holds reading time) → time ≤ stamp
  begun-late number floor stamp time (Ok reading) before after (begun, (stamped, stamps, is), answers) holds =
      let begun_is = (begun-queued (id_of before number) before.book begun stamp after.book answers).0 in
      let stamped_is : stamped ≡ Ok stamp = stamped-as stamped stamp (sym is ∙ begun_is) in
      let given : Stamps floor before.lease reading before.seat (Ok stamp) after.seat = subst (λ (s : Result ℕ StampFault). Stamps floor before.lease reading before.seat s after.seat) stamped_is stamps in
      omega (arith, holds.1, given.2)
  begun-late number floor stamp time (Err fault) before after (begun, (is, kept), answers) holds =
      let begun_is = (begun-queued (id_of before number) before.book begun stamp after.book answers).0 in
      absurd (let no : ◌≡◌ {A = Result ℕ BeginFault} (Ok stamp) begun = sym begun_is in cc)

  stamp-where : (number floor stamp time : ℕ) (before after : WorkerState C G) (passes : Bool) (does : DoesWhere passes (Commits gives failed number floor) before (Ok stamp) after) → IfSome (look_of_begin gives failed number floor before (Ok stamp) after passes does) (λ look. IfOk look.answer (λ reading. Holds reading time)) → time ≤ stamp
  stamp-where number floor stamp time before after true does holds = begun-late number floor stamp time does.1.begins.0 before after does.1.begins.2 holds
  stamp-where number floor stamp time before after false does holds = absurd (let is = does.0 in cc)

  queued-where : (number floor stamp : ℕ) (before after : WorkerState C G) (passes : Bool) → DoesWhere passes (Commits gives failed number floor) before (Ok stamp) after → Contains after.book (Queued (id_of before number) stamp)
  queued-where number floor stamp before after true does = (begun-queued (id_of before number) before.book does.1.begins.2.0 stamp after.book does.1.begins.2.2).1
  queued-where number floor stamp before after false does = absurd (let is = does.0 in cc)

  answer_of : (n f number floor s : ℕ) (answer : Result ℕ ℕ) → ◌≡◌ {A = Call} (call.Begin n f answer) (call.Begin number floor (Ok s)) → answer ≡ Ok s
  answer_of n f number floor s answer is = cc

  number_of : (n f number floor s : ℕ) (answer : Result ℕ ℕ) → ◌≡◌ {A = Call} (call.Begin n f answer) (call.Begin number floor (Ok s)) → n ≡ number
  number_of n f number floor s answer is = cc

  stamp-begin : (before after : WorkerState C G) (n f s time : ℕ) (answer : Result ℕ ℕ) (allowed : Allows gives failed says hears before (call.Begin n f answer) after) → answer ≡ Ok s → IfSome (look_of gives failed says hears before (call.Begin n f answer) after allowed) (λ look. IfOk look.answer (λ reading. Holds reading time)) → time ≤ s
  stamp-begin before after n f s time (Ok other) allowed is holds =
      let same : other ≡ s = cc in
      let late = stamp-where n f other time (after_asking before allowed.asked) allowed.done allowed.passes allowed.does holds in omega (arith, late, same)
  stamp-begin before after n f s time (Err number) allowed is holds = absurd (cc)

  stamp-call : (before : WorkerState C G) (of : Call) (after : WorkerState C G) (allowed : Allows gives failed says hears before of after) (number floor s time : ℕ) → of ≡ call.Begin number floor (Ok s) → IfSome (look_of gives failed says hears before of after allowed) (λ look. IfOk look.answer (λ reading. Holds reading time)) → time ≤ s
  stamp-call before (call.Now answer) after allowed number floor s time is holds = absurd (cc)
  stamp-call before (call.Begin n f answer) after allowed number floor s time is holds = stamp-begin before after n f s time answer allowed (answer_of n f number floor s answer is) holds
  stamp-call before (call.Lease lo hi answer) after allowed number floor s time is holds = absurd (cc)
  stamp-call before (call.Pass n answer) after allowed number floor s time is holds = absurd (cc)

  queued-call : (before : WorkerState C G) (of : Call) (after : WorkerState C G) (number floor s : ℕ) → of ≡ call.Begin number floor (Ok s) → Allows gives failed says hears before of after → Contains after.book (Queued (id_of before number) s)
  queued-call before of after number floor s is allowed =
      let begins : Allows gives failed says hears before (call.Begin number floor (Ok s)) after = subst (λ (c : Call). Allows gives failed says hears before c after) is allowed in
      subst (λ (book : List Entry). Contains book (Queued (id_of before number) s)) (sym (ap (λ (w : WorkerState C G). w.book) begins.kept)) (queued-where number floor s (after_asking before begins.asked) begins.done begins.passes begins.does)

  -- ---- a commit that is said to be released
  pub record HasReceipt (before after : WorkerState C G) (number : ℕ) : Type 0 where
    pub legal : IsLegalHistory after.book
    pub receipt : Receipt
    pub found : receipt_of after.book (id_of before number) ≡ Some receipt

  some-receipt : (found : Option Receipt) → ◌≡◌ {A = Result Bool ℕ} (Ok true) (Ok (is_some found)) → (receipt : Receipt) × (found ≡ Some receipt)
  some-receipt None is = absurd (cc)
  some-receipt (Some receipt) is = (receipt, refl)

  passes-receipt : (number : ℕ) (looked : Result Interval ReadFault) (before after : WorkerState C G) → PassesAt number before looked (Ok true) after → HasReceipt before after number
  passes-receipt number (Ok reading) before after (legal, went, told) =
      let found = some-receipt (receipt_of after.book (id_of before number)) told in record { legal = legal; receipt = found.0; found = found.1 }
  passes-receipt number (Err fault) before after (told, same) = absurd (cc)

  receipt-where : (number : ℕ) (before after : WorkerState C G) (passes : Bool) → DoesWhere passes (Releases gives failed number) before (Ok true) after → HasReceipt before after number
  receipt-where number before after true does = passes-receipt number does.1.passes.0 before after does.1.passes.2
  receipt-where number before after false does = absurd (let is = does.0 in cc)

  receipt-call : (before : WorkerState C G) (of : Call) (after : WorkerState C G) (number : ℕ) → of ≡ call.Pass number (Ok true) → Allows gives failed says hears before of after → HasReceipt before after number
  receipt-call before of after number is allowed =
      let passes : Allows gives failed says hears before (call.Pass number (Ok true)) after = subst (λ (c : Call). Allows gives failed says hears before c after) is allowed in
      let has = receipt-where number (after_asking before passes.asked) passes.done passes.passes passes.does in
      let book : after.book ≡ passes.done.book = ap (λ (w : WorkerState C G). w.book) passes.kept in
      record {
        legal = subst IsLegalHistory (sym book) has.legal;
        receipt = has.receipt;
        found = subst (λ (b : List Entry). receipt_of b (id_of before number) ≡ Some has.receipt) (sym book) has.found;
      }

  -- ---- the receipt by which a commit is said to be released, of whichever worker's reading
  pub record IsReleasedBy (workers : List (TimedWorker gives failed says hears)) (stamp time : ℕ) : Type 0 where
    pub earliest : ℕ
    pub below : stamp < earliest
    pub read : WasRead gives failed says hears workers earliest time

  module _ (workers : List (TimedWorker gives failed says hears)) where
    passed : (calls : List Call) (before after : WorkerState C G) (talked : Conversation (Allows gives failed says hears) before calls after) (times : List CallTimes) → BookIsOf gives failed says hears workers before calls after talked times → (number stamp place : ℕ) → Contains before.book (Queued (id_of before number) stamp) → ReleasesAt calls place number
        → IsReleasedBy workers stamp (times_at times place).answered
    passed [] before after talked times book number stamp place queued releases = absurd (none-some _ releases)
    passed (first ∷ calls) before after talked [] book number stamp place queued releases = absurd book
    passed (first ∷ calls) before after talked (t ∷ times) book number stamp zero queued releases =
        let has = receipt-call before first talked.0 number (same_Some first (call.Pass number (Ok true)) releases) talked.1 in
        let there = contains-later before.book talked.0.book (Queued (id_of before number) stamp) (from-call before first talked.0 talked.1).book queued in
        let below = below-earliest talked.0.book (id_of before number) stamp has.receipt has.legal there has.found in
        record { earliest = has.receipt.earliest; below = below.1; read = book.0 has.receipt below.0 }
    passed (first ∷ calls) before after talked (t ∷ times) book number stamp (suc place) queued releases =
        let from = from-call before first talked.0 talked.1 in
        let there = contains-later before.book talked.0.book (Queued (id_of before number) stamp) from.book queued in
        passed calls talked.0 after talked.2 times book.1 number stamp place
        (subst (λ (s : ℕ). Contains talked.0.book (Queued (record { session = s; number = number }) stamp)) (sym from.session) there) releases

    released : (calls : List Call) (before after : WorkerState C G) (talked : Conversation (Allows gives failed says hears) before calls after) (times : List CallTimes) → BookIsOf gives failed says hears workers before calls after talked times → (number stamp place later : ℕ) → BeginsAt calls place number stamp → ReleasesAt calls later number → place < later
        → IsReleasedBy workers stamp (times_at times later).answered
    released [] before after talked times book number stamp place later begins releases is_later = absurd (none-some _ releases)
    released (first ∷ calls) before after talked [] book number stamp place later begins releases is_later = absurd book
    released (first ∷ calls) before after talked (t ∷ times) book number stamp zero zero begins releases is_later = absurd (omega (arith, is_later))
    released (first ∷ calls) before after talked (t ∷ times) book number stamp zero (suc later) begins releases is_later =
        let from = from-call before first talked.0 talked.1 in
        let queued = queued-call before first talked.0 number begins.0 stamp (same_Some first (call.Begin number begins.0 (Ok stamp)) begins.1) talked.1 in
        passed calls talked.0 after talked.2 times book.1 number stamp later
        (subst (λ (s : ℕ). Contains talked.0.book (Queued (record { session = s; number = number }) stamp)) (sym from.session) queued) releases
    released (first ∷ calls) before after talked (t ∷ times) book number stamp (suc place) zero begins releases is_later = absurd (omega (arith, is_later))
    released (first ∷ calls) before after talked (t ∷ times) book number stamp (suc place) (suc later) begins releases is_later =
        released calls talked.0 after talked.2 times book.1 number stamp place later begins releases (omega (arith, is_later))

  -- ---- readings hold the true time
  module _ (machine : Machine) (running : IsRunning machine) where
    hold-now : (before : WorkerState C G) (reading : Interval) (after : WorkerState C G) (time : ℕ) (passes : Bool) (does : DoesWhere passes (Reads gives failed) before (Ok reading) after) → IfSome (look_of_now gives failed before reading after passes does) (λ look. LooksOn gives machine look time)
        → IfSome (look_of_now gives failed before reading after passes does) (λ look. IfOk look.answer (λ r. Holds r time))
    hold-now before reading after time true does on =
        let read = does.1.read in
        look-holds gives failed after.watch.drift before.watch after.watch read.clock read.later (Ok reading) (clock_moments machine) (published_by machine) time (sym read.looks.same.1) read.looks (publications-hold machine running) on.0 on.1
    hold-now before reading after time false does on = tt

    hold-begin : (number floor : ℕ) (before : WorkerState C G) (answer : Result ℕ ℕ) (after : WorkerState C G) (time : ℕ) (passes : Bool) (does : DoesWhere passes (Commits gives failed number floor) before answer after) → IfSome (look_of_begin gives failed number floor before answer after passes does) (λ look. LooksOn gives machine look time)
        → IfSome (look_of_begin gives failed number floor before answer after passes does) (λ look. IfOk look.answer (λ r. Holds r time))
    hold-begin number floor before answer after time true does on =
        look-holds gives failed after.watch.drift before.watch after.watch before.clock after.clock does.1.begins.0 (clock_moments machine) (published_by machine) time (sym does.1.begins.1.same.1) does.1.begins.1 (publications-hold machine running) on.0 on.1
    hold-begin number floor before answer after time false does on = tt

    hold-pass : (number : ℕ) (before : WorkerState C G) (answer : Result Bool ℕ) (after : WorkerState C G) (time : ℕ) (passes : Bool) (does : DoesWhere passes (Releases gives failed number) before answer after) → IfSome (look_of_pass gives failed number before answer after passes does) (λ look. LooksOn gives machine look time)
        → IfSome (look_of_pass gives failed number before answer after passes does) (λ look. IfOk look.answer (λ r. Holds r time))
    hold-pass number before answer after time true does on =
        look-holds gives failed after.watch.drift before.watch after.watch before.clock after.clock does.1.passes.0 (clock_moments machine) (published_by machine) time (sym does.1.passes.1.same.1) does.1.passes.1 (publications-hold machine running) on.0 on.1
    hold-pass number before answer after time false does on = tt

    hold-call : (before : WorkerState C G) (of : Call) (after : WorkerState C G) (allowed : Allows gives failed says hears before of after) (time : ℕ) → IfSome (look_of gives failed says hears before of after allowed) (λ look. LooksOn gives machine look time)
        → IfSome (look_of gives failed says hears before of after allowed) (λ look. IfOk look.answer (λ r. Holds r time))
    hold-call before (call.Now (Ok reading)) after allowed time on = hold-now (after_asking before allowed.asked) reading allowed.done time allowed.passes allowed.does on
    hold-call before (call.Now (Err number)) after allowed time on = tt
    hold-call before (call.Begin number floor answer) after allowed time on = hold-begin number floor (after_asking before allowed.asked) answer allowed.done time allowed.passes allowed.does on
    hold-call before (call.Lease lo hi answer) after allowed time on = tt
    hold-call before (call.Pass number answer) after allowed time on = hold-pass number (after_asking before allowed.asked) answer allowed.done time allowed.passes allowed.does on

    hold-in : (calls : List Call) (before after : WorkerState C G) (talked : Conversation (Allows gives failed says hears) before calls after) (times : List CallTimes) → AllLookOn gives failed says hears machine before calls after talked times → (place : ℕ) (look : Look C) → look_in gives failed says hears before calls after talked place ≡ Some look
        → IfOk look.answer (λ r. Holds r (times_at times place).read)
    hold-in [] before after talked times all place look is = absurd (none-some _ is)
    hold-in (first ∷ calls) before after talked [] all place look is = absurd all
    hold-in (first ∷ calls) before after talked (t ∷ times) all zero look is =
        subst (λ (o : Option (Look C)). IfSome o (λ l. IfOk l.answer (λ r. Holds r t.read))) is (hold-call before first talked.0 talked.1 t.read all.0)
    hold-in (first ∷ calls) before after talked (t ∷ times) all (suc place) look is = hold-in calls talked.0 after talked.2 times all.1 place look is

    begun-in : (calls : List Call) (before after : WorkerState C G) (talked : Conversation (Allows gives failed says hears) before calls after) (times : List CallTimes) → AllLookOn gives failed says hears machine before calls after talked times → (place number stamp : ℕ) → BeginsAt calls place number stamp → (times_at times place).read ≤ stamp
    begun-in [] before after talked times all place number stamp begins = absurd (none-some _ begins.1)
    begun-in (first ∷ calls) before after talked [] all place number stamp begins = absurd all
    begun-in (first ∷ calls) before after talked (t ∷ times) all zero number stamp begins =
        stamp-call before first talked.0 talked.1 number begins.0 stamp t.read (same_Some first (call.Begin number begins.0 (Ok stamp)) begins.1) (hold-call before first talked.0 talked.1 t.read all.0)
    begun-in (first ∷ calls) before after talked (t ∷ times) all (suc place) number stamp begins = begun-in calls talked.0 after talked.2 times all.1 place number stamp begins

  -- ---- of a node
  module _ (node : Node gives failed says hears) (working : IsWorking gives failed says hears node) where
    serves : (worker : TimedWorker gives failed says hears) → Contains node.workers worker → ServesOn gives failed says hears node worker
    serves worker among = All-contains (ServesOn gives failed says hears node) node.workers worker working.serve among

    pub node-reads : (worker : TimedWorker gives failed says hears) (place : ℕ) (look : Look C) (reading : Interval) → Contains node.workers worker → look_at gives failed says hears worker place ≡ Some look → look.answer ≡ Ok reading → Holds reading (times_at worker.times place).read
    node-reads worker place look reading among is gave =
        subst (λ (a : Result Interval ReadFault). IfOk a (λ r. Holds r (times_at worker.times place).read)) gave
        (hold-in node.machine working.running worker.calls worker.before worker.after worker.talked worker.times (serves worker among).look place look is)

    pub node-begun : (worker : TimedWorker gives failed says hears) (place number stamp : ℕ) → Contains node.workers worker → BeginsAt worker.calls place number stamp → (times_at worker.times place).read ≤ stamp
    node-begun worker place number stamp among begins =
        begun-in node.machine working.running worker.calls worker.before worker.after worker.talked worker.times (serves worker among).look place number stamp begins

    pub node-released : (worker : TimedWorker gives failed says hears) (number stamp place later : ℕ) → Contains node.workers worker → IsCommitted worker.calls number stamp place later → stamp < (times_at worker.times later).answered
    node-released worker number stamp place later among committed =
        let by = released node.workers worker.calls worker.before worker.after worker.talked worker.times (serves worker among).book number stamp place later committed.begins committed.releases committed.later in
        let read = node-reads by.read.worker by.read.place by.read.look by.read.reading by.read.among by.read.looked by.read.gave in
        omega (arith, by.below, by.read.earliest_is, read.0, by.read.by_then)

    pub node-within : (worker : TimedWorker gives failed says hears) → Contains node.workers worker → (commit : Commit) (seen : IsSeen worker.calls worker.times commit) → IsWithin commit
    node-within worker among commit seen =
        let first = ordered-at 0 worker.times (serves worker among).in_order seen.begun in
        let low = node-begun worker seen.begun seen.number commit.stamp among seen.committed.begins in
        let high = node-released worker seen.number commit.stamp seen.begun seen.released among seen.committed in
        record { begun = omega (arith, seen.began, first.reads, low); ended = omega (arith, high, seen.ended) }

  pub nodes-consistent : (nodes : List (Node gives failed says hears)) (history : List Commit) → All (IsWorking gives failed says hears) nodes → All (IsSeenAtWorkerOf gives failed says hears nodes) history → IsConsistent history
  nodes-consistent nodes history working seen =
      within-consistent history
      (λ number commit inside.
      let at = seen number commit inside in
      node-within at.node (All-contains (IsWorking gives failed says hears) nodes at.node working at.among) at.worker at.of_node _ at.seen)

module _ {C G D H : Type 0} (gives : C → Option ℕ → C → Type 0) (failed : C → ℕ) (says : G → ℕ → ℕ → Bool → G → Type 0) (hears : G → ℕ → ℕ → G → Type 0)
    (gives' : D → Option ℕ → D → Type 0) (failed' : D → ℕ) (says' : H → ℕ → ℕ → Bool → H → Type 0) (hears' : H → ℕ → ℕ → H → Type 0) where
  pub nodes-ordered : (node : Node gives failed says hears) (other : Node gives' failed' says' hears') (earlier : TimedWorker gives failed says hears) (later : TimedWorker gives' failed' says' hears')
      (number stamp begun released other_number other_stamp other_begun : ℕ) → IsWorking gives failed says hears node → Contains node.workers earlier → IsWorking gives' failed' says' hears' other → Contains other.workers later
      → IsCommitted earlier.calls number stamp begun released → BeginsAt later.calls other_begun other_number other_stamp → (times_at earlier.times released).answered ≤ (times_at later.times other_begun).came → stamp < other_stamp
  nodes-ordered node other earlier later number stamp begun released other_number other_stamp other_begun working among other_working other_among committed begins order =
      let high = node-released gives failed says hears node working earlier number stamp begun released among committed in
      let low = node-begun gives' failed' says' hears' other other_working later other_begun other_number other_stamp other_among begins in
      let came = ordered-at 0 later.times (serves gives' failed' says' hears' other other_working later other_among).in_order other_begun in
      omega (arith, high, order, came.reads, low)
