-- The service of one worker.
use Rattle.std.specs.Prelude.{◌≡◌, ◌≢◌, ℕ, List, [], ◌∷◌, ◌++◌, Bool, true, false, Option, Some, None, is_some, Result, Ok, Err, IfOk, IfErr, OnErr}
use mathlib.Core.List.{IsPrefix}
use Rattle.tt_stream.specs.Counts.{HasFailed, count_after}
use Rattle.tt_span.specs.Interval.{Interval}
use Rattle.tt_publish.specs.Fault.{read_number_of}
use Rattle.tt_publish.specs.Known.{WatchState}
use Rattle.tt_publish.specs.Looks.{Looks}
use Rattle.tt_publish.specs.declared.faults.ReadFault.{ReadFault}
use Rattle.tt_stamp.specs.Fault.{begin_number_of, book_number_of}
use Rattle.tt_node.specs.SharedBooks.{GoesOn, AnswersFault}
use Rattle.tt_stamp.specs.History.{IsLegalHistory, waiting_of, release_of, with_receipts, first_queue_fault, receipt_of}
use Rattle.tt_stamp.specs.Stamping.{SeatState}
use Rattle.tt_stamp.specs.Steps.{Stamps, Begins}
use Rattle.tt_stamp.specs.declared.commits.Id.{Id}
use Rattle.tt_stamp.specs.declared.commits.Entry.{Entry}
use Rattle.tt_stamp.specs.declared.commits.Entry.TheVariants.{Queued}
use Rattle.tt_stamp.specs.declared.commits.Receipt.{Receipt}
use Rattle.tt_stamp.specs.declared.faults.BeginFault.{BeginFault}
use Rattle.tt_stamp.specs.declared.faults.BookFault.{BookFault}
use Rattle.tt_audit.specs.declared.live.LiveNote.{LiveNote}
use Rattle.tt_node.specs.Gating.{Asks}
use Rattle.tt_session.specs.Desk.{KeepsNoLease}
use Rattle.tt_session.specs.declared.calls.Call.{Call}
use Rattle.tt_session.specs.declared.calls.Call.TheVariants.{Now, Begin, Lease, Pass}

-- a worker: its session, its gate and how many calls it was asked about, its watch and its clock, its seat, the lease that it stamps in, its notes, oldest first, and what it has seen of its book, newest first
pub record WorkerState (C G : Type 0) : Type 0 where
  pub session : ℕ
  pub gate : G
  pub calls : ℕ
  pub watch : WatchState
  pub clock : C
  pub seat : SeatState
  pub lease : Interval
  pub notes : List LiveNote
  pub book : List Entry

-- the worker with this gate
abbrev pub with_gate : {C G : Type 0} → WorkerState C G → G → WorkerState C G
with_gate w gate = record w { gate = gate }

-- the worker once its gate was asked about a call, with the gate after that: the count of calls stays at 2^64 - 1
abbrev pub after_asking : {C G : Type 0} → WorkerState C G → G → WorkerState C G
after_asking w gate = record w { gate = gate; calls = count_after w.calls 1 }

-- what is done where a gate lets a call pass leaves the session and the gate, the source and the drift of the watch, and what it has seen never shrinks
pub record Works {C G : Type 0} (before after : WorkerState C G) : Type 0 where
  pub session : after.session ≡ before.session
  pub gate : after.gate ≡ before.gate
  pub calls : after.calls ≡ before.calls
  pub same : (after.watch.source ≡ before.watch.source) × (after.watch.drift ≡ before.watch.drift)
  pub seen : IsPrefix before.watch.items after.watch.items
  pub lease : after.lease ≡ before.lease

-- a reading was given: it is one `now` on the watch, between two readings of the clock, and these three are noted
pub record HasRead {C G : Type 0} (gives : C → Option ℕ → C → Type 0) (failed : C → ℕ) (before : WorkerState C G) (reading : Interval) (after : WorkerState C G) : Type 0 where
  pub first : ℕ
  pub last : ℕ
  pub clock : C
  pub later : C
  pub shown_first : gives before.clock (Some first) clock
  pub looks : Looks gives failed before.watch clock (Ok reading) after.watch later
  pub shown_last : gives later (Some last) after.clock
  pub noted : after.notes ≡ before.notes ++ record { before = first; after = last; reading = reading } ∷ []

-- why no reading was given, by the number of the refusal
pub data GivesNone {C G : Type 0} (gives : C → Option ℕ → C → Type 0) (failed : C → ℕ) (before : WorkerState C G) (number : ℕ) (after : WorkerState C G) : Type 0 where
  -- there was no room for the note, and nothing was done
  NoRoom : number ≡ 1 → after ≡ before → GivesNone gives failed before number after
  -- the clock failed just before the `now` on the watch, which was not called
  FailedBefore : number ≡ 803 → gives before.clock None after.clock → HasFailed (failed before.clock) (failed after.clock) → after.watch ≡ before.watch → GivesNone gives failed before number after
  -- the watch gave no reading
  NotRead : (first : ℕ) (clock : C) (fault : ReadFault) → number ≡ read_number_of fault → gives before.clock (Some first) clock
      → Looks gives failed before.watch clock (Err fault) after.watch after.clock → GivesNone gives failed before number after
  -- the clock failed just after the watch gave its reading
  FailedAfter : (first : ℕ) (clock later : C) (reading : Interval) → number ≡ 803 → gives before.clock (Some first) clock
      → Looks gives failed before.watch clock (Ok reading) after.watch later → gives later None after.clock → HasFailed (failed later) (failed after.clock) → GivesNone gives failed before number after

-- one queueing in a shared book, by what was seen of it before and after: what is seen goes on from what was seen to a history in which the commit has no fault, and ends with the commit; or the commit is refused by the first fault of what is seen, or for want of memory where that has none
abbrev pub QueuesShared : List Entry → Id → ℕ → Result (Unit {0}) BookFault → List Entry → Type 0
QueuesShared old id stamp (Ok done) new = IsLegalHistory new × ((past : List Entry) × GoesOn old past × (first_queue_fault past id stamp ≡ None) × (new ≡ Queued id stamp ∷ past))
QueuesShared old id stamp (Err fault) new = GoesOn old new × IsLegalHistory new × AnswersFault (first_queue_fault new id stamp) fault

-- one release of a shared book by a reading, by what was seen of it before and after: what is seen goes on from what was seen, and ends with the receipts of what has surely passed; the answer is the receipt that it has of the commit
pub record ReleasesShared (old : List Entry) (reading : Interval) (id : Id) (answer : Option Receipt) (new : List Entry) : Type 0 where
  pub legal : IsLegalHistory new
  pub released : (past : List Entry) × GoesOn old past × (new ≡ with_receipts (release_of (waiting_of past) reading.lo) past)
  pub receipt : answer ≡ receipt_of new id

-- the answer to a commit that has begun, by what was seen of the book before and after: what is seen goes on from what was seen to a history in which the commit has no fault, and ends with the commit and its stamp, which is the answer; or the commit is refused by the first fault of what is seen, or for want of memory where that has none. Where it has not begun, the answer is the number of that refusal, and nothing more is seen
abbrev pub AnswersBegun : Id → List Entry → Result ℕ BeginFault → Result ℕ ℕ → List Entry → Type 0
AnswersBegun id old (Ok stamp) (Ok given) new = (given ≡ stamp) × IsLegalHistory new
    × ((past : List Entry) × GoesOn old past × (first_queue_fault past id stamp ≡ None) × (new ≡ Queued id stamp ∷ past))
AnswersBegun id old (Ok stamp) (Err number) new = GoesOn old new × IsLegalHistory new
    × ((fault : BookFault) × (number ≡ book_number_of fault) × AnswersFault (first_queue_fault new id stamp) fault)
AnswersBegun id old (Err fault) answer new = (answer ≡ Err (begin_number_of fault)) × (new ≡ old)

-- a commit of this number whose reading was taken is stamped by the seat, and then queued; where the reading was refused, the seat stays; and this is the answer
abbrev pub BeginsAt : {C G : Type 0} → ℕ → ℕ → WorkerState C G → Result Interval ReadFault → Result ℕ ℕ → WorkerState C G → Type 0
BeginsAt number floor before looked answer after = (begun : Result ℕ BeginFault) × Begins (Stamps floor before.lease) looked before.seat begun after.seat
    × AnswersBegun (record { session = before.session; number = number }) before.book begun answer after.book

-- a release step for the commit of this number: what is seen of the book goes on from what was seen, and ends with the receipts of what has surely passed at the reading; the answer is whether it has one of the commit. Where the reading was refused, so is the step, and nothing more is seen
abbrev pub PassesAt : {C G : Type 0} → ℕ → WorkerState C G → Result Interval ReadFault → Result Bool ℕ → WorkerState C G → Type 0
PassesAt number before (Ok reading) answer after = IsLegalHistory after.book
    × ((past : List Entry) × GoesOn before.book past × (after.book ≡ with_receipts (release_of (waiting_of past) reading.lo) past))
    × (answer ≡ Ok (is_some (receipt_of after.book (record { session = before.session; number = number }))))
PassesAt number before (Err fault) answer after = (answer ≡ Err (read_number_of fault)) × (after.book ≡ before.book)

-- a call that begins with one `now` on the watch, and then does this with what it answered
abbrev pub LooksThen : {C G : Type 0} → (C → Option ℕ → C → Type 0) → (C → ℕ) → WorkerState C G → (Result Interval ReadFault → Type 0) → WorkerState C G → Type 0
LooksThen gives failed before Then after = (looked : Result Interval ReadFault) × Looks gives failed before.watch before.clock looked after.watch after.clock × Then looked

-- what a worker does for a call whose gate says this: where it says no, the call is refused by 1504 and nothing is done; where it says yes, this is done, and no refusal of it is 1504
abbrev pub DoesWhere : {C G A : Type 0} → Bool → (WorkerState C G → Result A ℕ → WorkerState C G → Type 0) → WorkerState C G → Result A ℕ → WorkerState C G → Type 0
DoesWhere true Does before answer after = (answer ≢ Err 1504) × Does before answer after
DoesWhere false Does before answer after = (answer ≡ Err 1504) × (after ≡ before)

-- a call of a worker: its gate is asked about it, with the session and the number of the call; then it does what it does where the gate says this; and then the gate is told, once
pub record PassesGate {C G A : Type 0} (says : G → ℕ → ℕ → Bool → G → Type 0) (hears : G → ℕ → ℕ → G → Type 0) (Does : WorkerState C G → Result A ℕ → WorkerState C G → Type 0)
    (before : WorkerState C G) (answer : Result A ℕ) (after : WorkerState C G) : Type 0 where
  pub passes : Bool
  pub asked : G
  pub done : WorkerState C G
  pub asks : Asks says before.session before.calls before.gate passes asked
  pub does : DoesWhere passes Does (after_asking before asked) answer done
  pub told : hears done.gate before.session before.calls after.gate
  pub kept : after ≡ with_gate done after.gate

-- a `now` that the gate lets pass: a reading is given and noted, or there is a reason why none is, and nothing is noted. It sees nothing of the book
pub record Reads {C G : Type 0} (gives : C → Option ℕ → C → Type 0) (failed : C → ℕ) (before : WorkerState C G) (answer : Result Interval ℕ) (after : WorkerState C G) : Type 0 where
  pub works : Works before after
  pub seat : after.seat ≡ before.seat
  pub book : after.book ≡ before.book
  pub read : IfOk answer (λ reading. HasRead gives failed before reading after)
  pub unread : OnErr answer (after.notes ≡ before.notes)
  pub refused : IfErr answer (λ number. GivesNone gives failed before number after)

-- a `begin` that the gate lets pass looks once, then stamps once, and then queues once
pub record Commits {C G : Type 0} (gives : C → Option ℕ → C → Type 0) (failed : C → ℕ) (number floor : ℕ) (before : WorkerState C G) (answer : Result ℕ ℕ) (after : WorkerState C G) : Type 0 where
  pub works : Works before after
  pub notes : after.notes ≡ before.notes
  pub begins : LooksThen gives failed before (λ looked. BeginsAt number floor before looked answer after) after

-- a `pass` that the gate lets pass looks once, and then releases and asks once
pub record Releases {C G : Type 0} (gives : C → Option ℕ → C → Type 0) (failed : C → ℕ) (number : ℕ) (before : WorkerState C G) (answer : Result Bool ℕ) (after : WorkerState C G) : Type 0 where
  pub works : Works before after
  pub seat : after.seat ≡ before.seat
  pub notes : after.notes ≡ before.notes
  pub passes : LooksThen gives failed before (λ looked. PassesAt number before looked answer after) after

-- what a worker promises of each call of its service; of a lease its gate is not asked
abbrev pub Allows : {C G : Type 0} → (C → Option ℕ → C → Type 0) → (C → ℕ) → (G → ℕ → ℕ → Bool → G → Type 0) → (G → ℕ → ℕ → G → Type 0) → WorkerState C G → Call → WorkerState C G → Type 0
Allows gives failed says hears before (Now answer) after = PassesGate says hears (Reads gives failed) before answer after
Allows gives failed says hears before (Begin number floor answer) after = PassesGate says hears (Commits gives failed number floor) before answer after
Allows gives failed says hears before (Lease lo hi answer) after = KeepsNoLease before answer after
Allows gives failed says hears before (Pass number answer) after = PassesGate says hears (Releases gives failed number) before answer after
