-- The steps of a commit, whatever gives its stamp and whatever book it is queued in; and the pause before its next release step.
use Rattle.std.specs.Prelude.{◌≡◌, ◌<◌, ◌+◌, ◌-◌, ℕ, min, List, IfSome, Option, Result, Ok, Err}
use Rattle.tt_span.specs.Interval.{Interval}
use Rattle.tt_stamp.specs.History.{waiting_of, release_of, with_receipts, receipt_of}
use Rattle.tt_stamp.specs.declared.commits.Id.{Id}
use Rattle.tt_stamp.specs.declared.commits.Entry.{Entry}
use Rattle.tt_stamp.specs.declared.commits.Receipt.{Receipt}
use Rattle.tt_stamp.specs.declared.faults.BookFault.{BookFault}
use Rattle.tt_stamp.specs.declared.faults.StampFault.{StampFault}
use Rattle.tt_session.specs.declared.faults.CommitFault.{CommitFault}
use Rattle.tt_session.specs.declared.faults.CommitFault.TheVariants.{Stamp, Queue}

-- an answer with its refusal as a number, by the number of each refusal
abbrev pub numbered : {A F : Type 0} → (F → ℕ) → Result A F → Result A ℕ
numbered number_of (Ok value) = Ok value
numbered number_of (Err fault) = Err (number_of fault)

-- what a commit with this stamp is answered, by what its queueing was answered
abbrev pub queued_by : ℕ → Result (Unit {0}) BookFault → Result ℕ CommitFault
queued_by stamp (Ok done) = Ok stamp
queued_by stamp (Err fault) = Err (Queue fault)

-- a commit that has its stamp is queued under it; where it has none, that is the answer, and the book stays
abbrev pub QueuesBy : {B : Type 0} → (B → Id → ℕ → Result (Unit {0}) BookFault → B → Type 0) → Id → B → Result ℕ CommitFault → B → Result ℕ StampFault → Type 0
QueuesBy queues id old answer new (Ok stamp) = (queued : Result (Unit {0}) BookFault) × queues old id stamp queued new × (answer ≡ queued_by stamp queued)
QueuesBy queues id old answer new (Err fault) = (answer ≡ Err (Stamp fault)) × (new ≡ old)

-- one commit: it is stamped by what a source of stamps does, and then queued by what a book does
pub record CommitsBy {S B : Type 0} (stamps : S → Result ℕ StampFault → S → Type 0) (queues : B → Id → ℕ → Result (Unit {0}) BookFault → B → Type 0) (id : Id)
    (source : S) (book : B) (answer : Result ℕ CommitFault) (source' : S) (book' : B) : Type 0 where
  pub stamped : Result ℕ StampFault
  pub stamps_so : stamps source stamped source'
  pub queues_so : QueuesBy queues id book answer book' stamped

-- one release of a book by a reading: what has surely passed is released, and the answer is the receipt of the commit with this id, on which the stamp is below the earliest
pub record ReleasesBy (old : List Entry) (reading : Interval) (id : Id) (answer : Option Receipt) (new : List Entry) : Type 0 where
  pub released : new ≡ with_receipts (release_of (waiting_of old) reading.lo) old
  pub receipt : answer ≡ receipt_of new id
  pub sure : IfSome answer (λ receipt. receipt.stamp < receipt.earliest)

-- the longest pause of one release step, in nanoseconds, without the margin
abbrev pub max_pause : ℕ
max_pause = 50000000

-- how much longer a pause is than the time that is missing, in nanoseconds
abbrev pub pause_margin : ℕ
pause_margin = 1000

-- the pause after a release step whose reading has this earliest, for a commit with this stamp
abbrev pub pause_of : ℕ → ℕ → ℕ
pause_of stamp earliest = min (stamp - earliest) max_pause + pause_margin
