-- What one stamp does, and what the steps that begin with a reading do.
use Rattle.std.specs.Prelude.{ℕ, ◌≡◌, ◌≤◌, List, length, Option, Some, Result, Ok, Err, IfOk, OnErr}
use Rattle.tt_span.specs.Interval.{Interval, Holds}
use Rattle.tt_publish.specs.declared.faults.ReadFault.{ReadFault}
use Rattle.tt_stamp.specs.declared.commits.Entry.{Entry}
use Rattle.tt_stamp.specs.declared.faults.StampFault.{StampFault}
use Rattle.tt_stamp.specs.declared.faults.StampFault.TheVariants.{UsedUp, FloorTooFar, LeaseOver}
use Rattle.tt_stamp.specs.declared.faults.BeginFault.{BeginFault}
use Rattle.tt_stamp.specs.declared.faults.BeginFault.TheVariants.{Read, Stamp}
use Rattle.tt_stamp.specs.History.{waiting_of, release_of, with_receipts}
use Rattle.tt_stamp.specs.Stamp.{IsTooFar, HasNoStamp, IsPastLease, greatest_of, stamp_of}
use Rattle.tt_stamp.specs.Stamping.{SeatState, Gives, SeatLooks, stamps_of}

-- one stamp of a seat, for this floor and in this lease, by a reading: it made of the seat `old` the seat `new`, and answered this
abbrev pub Stamps : ℕ → Interval → Interval → SeatState → Result ℕ StampFault → SeatState → Type 0
Stamps floor lease reading old (Ok stamp) new = (¬ IsTooFar reading.hi floor) × Gives old new reading.hi floor lease stamp × (reading.hi ≤ stamp) × Holds lease stamp
Stamps floor lease reading old (Err FloorTooFar) new = IsTooFar reading.hi floor × (new ≡ old)
Stamps floor lease reading old (Err UsedUp) new = (¬ IsTooFar reading.hi floor) × SeatLooks old new × HasNoStamp (stamps_of new.seen) reading.hi floor lease
Stamps floor lease reading old (Err LeaseOver) new = (¬ IsTooFar reading.hi floor) × SeatLooks old new × IsPastLease (stamps_of new.seen) reading.hi floor lease
Stamps floor lease reading old (Err _) new = ⊥

-- one stamp of a row, for this floor and in this lease, by a reading: it made of the row `old` the row `new`, and answered this
pub record StampsRow (floor : ℕ) (lease reading : Interval) (old : Option ℕ) (answer : Result ℕ StampFault) (new : Option ℕ) : Type 0 where
  -- whatever stamps were given before, as long as the row's value is the greatest of them
  pub value : (given : List ℕ) → greatest_of given ≡ old → answer ≡ stamp_of given reading.hi floor lease
  pub last : IfOk answer (λ stamp. new ≡ Some stamp)
  pub err : OnErr answer (new ≡ old)

-- what a commit is answered that was stamped so
abbrev pub begun_by : Result ℕ StampFault → Result ℕ BeginFault
begun_by (Ok stamp) = Ok stamp
begun_by (Err fault) = Err (Stamp fault)

-- a commit that begins with a reading, by what one stamp does with it: it is stamped by the reading; where there is none, that is the answer, and what gives stamps stays
abbrev pub Begins : {S : Type 0} → (Interval → S → Result ℕ StampFault → S → Type 0) → Result Interval ReadFault → S → Result ℕ BeginFault → S → Type 0
Begins stamps (Ok reading) old answer new = (stamped : Result ℕ StampFault) × stamps reading old stamped new × (answer ≡ begun_by stamped)
Begins stamps (Err fault) old answer new = (answer ≡ Err (Read fault)) × (new ≡ old)

-- a release with a reading: what has surely passed is released, and counted; where there is no reading the book stays
abbrev pub Releases : Result Interval ReadFault → List Entry → Result ℕ ReadFault → List Entry → Type 0
Releases (Ok reading) old answer new =
    (answer ≡ Ok (length (release_of (waiting_of old) reading.lo))) × (new ≡ with_receipts (release_of (waiting_of old) reading.lo) old)
Releases (Err fault) old answer new = (answer ≡ Err fault) × (new ≡ old)
