-- The service of one session: each call is calls of the worker's watch and seat, and of the session's book, one after the other.
use Rattle.std.specs.Prelude.{◌≡◌, ℕ, ◌+◌, ◌-◌, ◌<◌, max, min, nat_lt, List, [], Bool, true, false, if◌then◌else◌, MatchBool, Option, Some, None, Result, Ok, Err}
use Rattle.tt_span.specs.Time.{max_time}
use Rattle.tt_span.specs.Interval.{Interval, whole}
use Rattle.tt_span.specs.Fault.{number_of as span_number_of}
use Rattle.tt_span.specs.declared.spans.SpanFault.TheVariants.{Backwards, PastMax}
use Rattle.tt_publish.specs.Fault.{read_number_of}
use Rattle.tt_publish.specs.Known.{WatchState}
use Rattle.tt_publish.specs.Looks.{Looks}
use Rattle.tt_publish.specs.declared.faults.ReadFault.{ReadFault}
use Rattle.tt_stamp.specs.Fault.{number_of as stamp_number_of}
use Rattle.tt_stamp.specs.Stamping.{SeatState}
use Rattle.tt_stamp.specs.Steps.{Stamps}
use Rattle.tt_stamp.specs.History.{waiting_of, release_of, with_receipts, receipt_of}
use Rattle.tt_stamp.specs.declared.commits.Id.{Id}
use Rattle.tt_stamp.specs.declared.commits.Entry.{Entry}
use Rattle.tt_stamp.specs.declared.commits.Receipt.{Receipt}
use Rattle.tt_stamp.specs.declared.faults.StampFault.{StampFault}
use Rattle.tt_stamp.specs.declared.faults.StampFault.TheVariants.{LeaseOver}
use Rattle.tt_stamp.specs.declared.faults.BookFault.{BookFault}
use Rattle.tt_session.specs.Desk.{Queues, AnswersQueued}
use Rattle.tt_session.specs.declared.calls.Call.{Call}
use Rattle.tt_session.specs.declared.calls.Call.TheVariants.{Now, Begin, Lease, Pass}
use Rattle.tt_connections.specs.Fault.{number_of}
use Rattle.tt_connections.specs.declared.faults.StationFault.TheVariants.{FloorAboveCap, ClientLeft, Broken, TooWide}
use Rattle.tt_connections.specs.declared.presence.Question.{Question}
use Rattle.tt_connections.specs.declared.presence.Question.TheVariants.{HasLeft, IsBroken}

-- what a worker keeps from one session to the next: its watch and its clock, its seat, the lease that it stamps in, the interval of the stampers, in which it does not stamp, how far a floor may lie ahead, and how wide a reading may be
pub record PostState (C : Type 0) : Type 0 where
  pub watch : WatchState
  pub clock : C
  pub seat : SeatState
  pub lease : Interval
  pub stampers : Option Interval
  pub ahead : ℕ
  pub max_width : ℕ

-- a session: its worker's post, its client, the lease that the client set, and what happened in its book, newest first
pub record StationState (C V : Type 0) : Type 0 where
  pub post : PostState C
  pub client : V
  pub lease : Interval
  pub book : List Entry

-- a session at its beginning: nothing has happened in its book, and its lease is the whole of time
abbrev pub new_station : {C V : Type 0} → PostState C → V → StationState C V
new_station post client = record { post = post; client = client; lease = whole; book = [] }

-- the id of the session's commit with this number
abbrev pub id_at : ℕ → Id
id_at number = record { session = 0; number = number }

-- the book behind this, and where there is none, an empty one
abbrev pub book_in : {B : Type 0} → Option B → (B → List Entry) → List Entry
book_in (Some behind) book_of = book_of behind
book_in None book_of = []

-- the book that a commit is queued into: where none is pending, a new one
abbrev pub page_if : List (ℕ × Id) → List Entry → List Entry
page_if [] book = []
page_if _ book = book

abbrev pub book_before : List Entry → List Entry
book_before book = page_if (waiting_of book) book

-- what lies in both of two leases; where nothing does, its ends are not in order
abbrev pub common : Interval → Interval → Interval
common a b = record { lo = max a.lo b.lo; hi = min a.hi b.hi }

-- an interval that holds no time: its ends are not in order
abbrev pub nowhere : Interval
nowhere = record { lo = 1; hi = 0 }

-- the side of the stampers' interval on which this time lies, as a part of a lease: above it, or below it, or neither
abbrev pub side_of : Interval → Interval → ℕ → Interval
side_of stampers lease time =
    if nat_lt stampers.hi time then record { lo = max lease.lo (stampers.hi + 1); hi = lease.hi } else (if nat_lt time stampers.lo then record { lo = lease.lo; hi = min lease.hi (stampers.lo - 1) } else nowhere)

-- what a stamp that is no less than this time may lie in: a lease, without the stampers' interval; of what is left on both sides of it, the one on which the least time of the lease from there on lies
abbrev pub room_in : Option Interval → Interval → ℕ → Interval
room_in None lease least = lease
room_in (Some stampers) lease least = side_of stampers lease (max least lease.lo)

-- what a stamp for this floor, by this reading, may lie in: what the lease of the session and that of the machine have in common, without the stampers' interval
abbrev pub room_of : {C V : Type 0} → StationState C V → ℕ → Interval → Interval
room_of station floor reading = room_in station.post.stampers (common station.lease station.post.lease) (max reading.hi floor)

-- one stamp of a seat, for this floor, in this interval; where that holds no time, the lease is over, and the seat stays
abbrev pub StampsIn : Interval → ℕ → Interval → SeatState → Result ℕ StampFault → SeatState → Type 0
StampsIn room floor reading old answer new =
    MatchBool (nat_lt room.hi room.lo) ((answer ≡ Err LeaseOver) × (new ≡ old)) (Stamps floor room reading old answer new)

-- one stamp of a post is one of its seat, in what a lease and that of the machine have in common, without the stampers' interval; the rest of the post stays
pub record StampsPost {C : Type 0} (floor : ℕ) (lease reading : Interval) (old : PostState C) (answer : Result ℕ StampFault) (new : PostState C) : Type 0 where
  pub stamps : StampsIn (room_in old.stampers (common lease old.lease) (max reading.hi floor)) floor reading old.seat answer new.seat
  pub same : new ≡ record old { seat = new.seat }

-- one queueing in the book of a session
abbrev pub QueuesPage : List Entry → Id → ℕ → Result (Unit {0}) BookFault → List Entry → Type 0
QueuesPage old id stamp answer new = Queues (book_before old) id stamp answer new

-- the answer to a lease with these ends: the first reason why they are those of no interval of time, if there is one
abbrev pub lease_answer : ℕ → ℕ → Result (Unit {0}) ℕ
lease_answer lo hi = if nat_lt hi lo then Err (span_number_of Backwards) else (if nat_lt max_time hi then Err (span_number_of PastMax) else Ok tt)

-- the lease after that: the old one where the ends are those of no interval of time
abbrev pub lease_set : ℕ → ℕ → Interval → Interval
lease_set lo hi old = if nat_lt hi lo then old else (if nat_lt max_time hi then old else record { lo = lo; hi = hi })

-- the lease of a session is set to these ends, or refused; nothing else is done
pub record SetsLease {C V : Type 0} (lo hi : ℕ) (before : StationState C V) (answer : Result (Unit {0}) ℕ) (after : StationState C V) : Type 0 where
  pub says : answer ≡ lease_answer lo hi
  pub set : after ≡ record before { lease = lease_set lo hi before.lease }

-- a reading that was taken is given, unless the machine is broken, or the reading is wider than the terms allow: then the number of the first of these reasons is
abbrev pub admission : Bool → ℕ → Interval → Result Interval ℕ
admission broken max_width reading = if broken then Err (number_of Broken) else (if nat_lt max_width (reading.hi - reading.lo) then Err (number_of TooWide) else Ok reading)

-- what a session is given of one look of its watch: the reading, by what is answered to whether the machine is broken, or the number of its refusal
abbrev pub Admits : {V : Type 0} → (V → Question → Bool → Type 0) → V → ℕ → Result Interval ReadFault → Result Interval ℕ → Type 0
Admits says client max_width (Ok reading) given = (broken : Bool) × says client IsBroken broken × (given ≡ admission broken max_width reading)
Admits says client max_width (Err fault) given = given ≡ Err (read_number_of fault)

-- one look of a post: its watch is read, and this is given of the reading, or of the refusal
pub record LooksPost {C V : Type 0} (gives : C → Option ℕ → C → Type 0) (failed : C → ℕ) (says : V → Question → Bool → Type 0) (client : V) (before : PostState C) (given : Result Interval ℕ) (after : PostState C) : Type 0 where
  pub looked : Result Interval ReadFault
  pub looks : Looks gives failed before.watch before.clock looked after.watch after.clock
  pub admits : Admits says client before.max_width looked given

-- a call that begins with a look, and then does this with what it is given; the client, the terms and the lease stay
pub record LooksThen {C V : Type 0} (gives : C → Option ℕ → C → Type 0) (failed : C → ℕ) (says : V → Question → Bool → Type 0) (before : StationState C V) (Then : Result Interval ℕ → Type 0) (after : StationState C V) : Type 0 where
  pub lease : after.post.lease ≡ before.post.lease
  pub stampers : after.post.stampers ≡ before.post.stampers
  pub ahead : after.post.ahead ≡ before.post.ahead
  pub max_width : after.post.max_width ≡ before.post.max_width
  pub client : after.client ≡ before.client
  pub own : after.lease ≡ before.lease
  pub given : Result Interval ℕ
  pub look : LooksPost gives failed says before.client before.post given after.post
  pub rest : Then given

-- the call gave no stamp, and left the book as it was
pub record Keeps {C V : Type 0} (before after : StationState C V) : Type 0 where
  pub seat : after.post.seat ≡ before.post.seat
  pub book : after.book ≡ before.book

-- what is given is the answer
abbrev pub AnswersReading : {C V : Type 0} → StationState C V → Result Interval ℕ → StationState C V → Result Interval ℕ → Type 0
AnswersReading before answer after given = (answer ≡ given) × Keeps before after

-- a commit that has its stamp is queued; where it has none, the number of the refusal is the answer
abbrev pub QueuesStamped : List Entry → ℕ → Result ℕ ℕ → List Entry → Result ℕ StampFault → Type 0
QueuesStamped before number answer after (Ok stamp) =
    (queued : Result (Unit {0}) BookFault) × Queues (book_before before) (id_at number) stamp queued after × AnswersQueued stamp answer queued
QueuesStamped before number answer after (Err fault) = (answer ≡ Err (stamp_number_of fault)) × (after ≡ before)

-- a commit whose reading was taken is stamped and queued
abbrev pub CommitsAt : {C V : Type 0} → StationState C V → ℕ → ℕ → Interval → Result ℕ ℕ → StationState C V → Type 0
CommitsAt before number floor reading answer after =
    (stamped : Result ℕ StampFault) × StampsIn (room_of before floor reading) floor reading before.post.seat stamped after.post.seat
    × QueuesStamped before.book number answer after.book stamped

-- a floor, or a start of the session's lease, further ahead of the latest than the terms allow is refused; where no reading is given, the number of the reason is the answer
abbrev pub BeginsAt : {C V : Type 0} → StationState C V → ℕ → ℕ → Result ℕ ℕ → StationState C V → Result Interval ℕ → Type 0
BeginsAt before number floor answer after (Ok reading) =
    MatchBool (nat_lt (reading.hi + before.post.ahead) (max floor before.lease.lo)) ((answer ≡ Err (number_of FloorAboveCap)) × Keeps before after) (CommitsAt before number floor reading answer after)
BeginsAt before number floor answer after (Err reason) = (answer ≡ Err reason) × Keeps before after

-- the answer to whether a commit is released: yes where it has a receipt, on which its stamp is below the earliest of a reading; where it has none, no, or a refusal because the client has left
abbrev pub AnswersReceipt : {V : Type 0} → (V → Question → Bool → Type 0) → V → Result Bool ℕ → Option Receipt → Type 0
AnswersReceipt says client answer (Some receipt) = (answer ≡ Ok true) × (receipt.stamp < receipt.earliest)
AnswersReceipt says client answer None = (left : Bool) × says client HasLeft left × (answer ≡ (if left then Err (number_of ClientLeft) else Ok false))

-- what has surely passed at the reading is released; where no reading is given, the number of the reason is the answer
abbrev pub PassesAt : {C V : Type 0} → (V → Question → Bool → Type 0) → StationState C V → ℕ → Result Bool ℕ → StationState C V → Result Interval ℕ → Type 0
PassesAt says before number answer after (Ok reading) =
    (after.post.seat ≡ before.post.seat) × (after.book ≡ with_receipts (release_of (waiting_of before.book) reading.lo) before.book)
    × AnswersReceipt says before.client answer (receipt_of after.book (id_at number))
PassesAt says before number answer after (Err reason) = (answer ≡ Err reason) × Keeps before after

-- what a station promises of each call of its service
abbrev pub Allows : {C V : Type 0} → (C → Option ℕ → C → Type 0) → (C → ℕ) → (V → Question → Bool → Type 0) → StationState C V → Call → StationState C V → Type 0
Allows gives failed says before (Now answer) after = LooksThen gives failed says before (AnswersReading before answer after) after
Allows gives failed says before (Begin number floor answer) after = LooksThen gives failed says before (BeginsAt before number floor answer after) after
Allows gives failed says before (Lease lo hi answer) after = SetsLease lo hi before answer after
Allows gives failed says before (Pass number answer) after = LooksThen gives failed says before (PassesAt says before number answer after) after
