-- The service of one thread: each call is calls of a watch, a row of stamps and a book, one after the other.
use Rattle.std.specs.Prelude.{◌≡◌, ℕ, List, ◌∷◌, Bool, is_some, MatchOption, Option, Result, Ok, Err, OnOk, OnErr, IsOkUnless}
use Rattle.tt_span.specs.Interval.{Interval}
use Rattle.tt_publish.specs.Fault.{read_number_of}
use Rattle.tt_publish.specs.Known.{WatchState}
use Rattle.tt_publish.specs.Looks.{Looks}
use Rattle.tt_publish.specs.declared.faults.ReadFault.{ReadFault}
use Rattle.tt_stamp.specs.Fault.{book_number_of}
use Rattle.tt_stamp.specs.Steps.{StampsRow}
use Rattle.tt_stamp.specs.History.{waiting_of, release_of, with_receipts, receipt_of, first_queue_fault}
use Rattle.tt_stamp.specs.declared.commits.Id.{Id}
use Rattle.tt_stamp.specs.declared.commits.Entry.{Entry}
use Rattle.tt_stamp.specs.declared.commits.Entry.TheVariants.{Queued}
use Rattle.tt_stamp.specs.declared.faults.BookFault.{BookFault}
use Rattle.tt_stamp.specs.declared.faults.BookFault.TheVariants.{Memory}
use Rattle.tt_session.specs.Commits.{CommitsBy, numbered}
use Rattle.tt_session.specs.Fault.{commit_number_of, line_number_of}
use Rattle.tt_session.specs.declared.faults.CommitFault.{CommitFault}
use Rattle.tt_session.specs.declared.faults.LineFault.TheVariants.{BadLine}
use Rattle.tt_session.specs.declared.calls.Call.{Call}
use Rattle.tt_session.specs.declared.calls.Call.TheVariants.{Now, Begin, Lease, Pass}

-- a desk: its session, its watch and its clock, the greatest of the stamps that it gave, the lease that it stamps in, and what happened in its book, newest first
pub record DeskState (C : Type 0) : Type 0 where
  pub session : ℕ
  pub watch : WatchState
  pub clock : C
  pub row : Option ℕ
  pub lease : Interval
  pub book : List Entry

-- the id of the commit with this number
abbrev pub id_at : {C : Type 0} → DeskState C → ℕ → Id
id_at desk number = record { session = desk.session; number = number }

-- one queueing in a book: it made of the book `old` the book `new`, and answered this
pub record Queues (old : List Entry) (id : Id) (stamp : ℕ) (answer : Result (Unit {0}) BookFault) (new : List Entry) : Type 0 where
  -- the first refusal that applies; memory is the last, and its only other one
  pub fault : MatchOption (first_queue_fault old id stamp) (IsOkUnless answer Memory) (λ fault. answer ≡ Err fault)
  pub ok : OnOk answer (new ≡ Queued id stamp ∷ old)
  pub err : OnErr answer (new ≡ old)

-- a call that begins with a reading, and then does this with it; the session and the lease stay
pub record LooksThen {C : Type 0} (gives : C → Option ℕ → C → Type 0) (failed : C → ℕ) (before : DeskState C) (Then : Result Interval ReadFault → Type 0) (after : DeskState C) : Type 0 where
  pub session : after.session ≡ before.session
  pub lease : after.lease ≡ before.lease
  pub looked : Result Interval ReadFault
  pub looks : Looks gives failed before.watch before.clock looked after.watch after.clock
  pub rest : Then looked

-- the reading, or the number of its refusal, is the answer
abbrev pub AnswersReading : {C : Type 0} → DeskState C → Result Interval ℕ → DeskState C → Result Interval ReadFault → Type 0
AnswersReading before answer after (Ok reading) = (answer ≡ Ok reading) × (after.row ≡ before.row) × (after.book ≡ before.book)
AnswersReading before answer after (Err fault) = (answer ≡ Err (read_number_of fault)) × (after.row ≡ before.row) × (after.book ≡ before.book)

-- the stamp, or the number of the refusal of the book, is the answer
abbrev pub AnswersQueued : ℕ → Result ℕ ℕ → Result (Unit {0}) BookFault → Type 0
AnswersQueued stamp answer (Ok done) = answer ≡ Ok stamp
AnswersQueued stamp answer (Err fault) = answer ≡ Err (book_number_of fault)

-- a commit whose reading was taken is stamped by the row and queued, and the answer has a refusal as its number; where there is no reading, the row and the book stay
abbrev pub BeginsAt : {C : Type 0} → DeskState C → ℕ → ℕ → Result ℕ ℕ → DeskState C → Result Interval ReadFault → Type 0
BeginsAt before number floor answer after (Ok reading) =
    (given : Result ℕ CommitFault)
    × CommitsBy (StampsRow floor before.lease reading) Queues (id_at before number) before.row before.book given after.row after.book
    × (answer ≡ numbered commit_number_of given)
BeginsAt before number floor answer after (Err fault) = (answer ≡ Err (read_number_of fault)) × (after.row ≡ before.row) × (after.book ≡ before.book)

-- what has surely passed at the reading is released, and the answer is whether the commit is; where there is no reading, the number of the refusal
abbrev pub PassesAt : {C : Type 0} → DeskState C → ℕ → Result Bool ℕ → DeskState C → Result Interval ReadFault → Type 0
PassesAt before number answer after (Ok reading) =
    (after.row ≡ before.row) × (after.book ≡ with_receipts (release_of (waiting_of before.book) reading.lo) before.book)
    × (answer ≡ Ok (is_some (receipt_of after.book (id_at before number))))
PassesAt before number answer after (Err fault) = (answer ≡ Err (read_number_of fault)) × (after.row ≡ before.row) × (after.book ≡ before.book)

-- a service that keeps no lease of the session refuses each, as a line that is no request, and nothing is done
abbrev pub KeepsNoLease : {S : Type 0} → S → Result (Unit {0}) ℕ → S → Type 0
KeepsNoLease before answer after = (answer ≡ Err (line_number_of BadLine)) × (after ≡ before)

-- what a desk promises of each call of its service
abbrev pub Allows : {C : Type 0} → (C → Option ℕ → C → Type 0) → (C → ℕ) → DeskState C → Call → DeskState C → Type 0
Allows gives failed before (Now answer) after = LooksThen gives failed before (AnswersReading before answer after) after
Allows gives failed before (Begin number floor answer) after = LooksThen gives failed before (BeginsAt before number floor answer after) after
Allows gives failed before (Lease lo hi answer) after = KeepsNoLease before answer after
Allows gives failed before (Pass number answer) after = LooksThen gives failed before (PassesAt before number answer after) after
