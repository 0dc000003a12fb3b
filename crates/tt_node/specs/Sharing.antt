-- How the workers of a node share one sequencer and one list of publications: the stamps of all are one legal history, and all readings are of what the node published.
use Rattle.std.specs.Prelude.{◌≡◌, ℕ, ◌+◌, ◌-◌, List, [], ◌∷◌, length, count_by, All, Contains, Bool, Option, None, IfOk}
use mathlib.Core.List.{IsPrefix}
use Rattle.atomic_table.specs.Seated.{TableId}
use Rattle.tt_span.specs.Interval.{Interval}
use Rattle.tt_daemon.specs.Publication.{Publication}
use Rattle.tt_publish.specs.Known.{Source, Known, WatchState, seen_of}
use Rattle.tt_publish.specs.Reading.{fused_span_of, CanBeReadAt, reading_at}
use Rattle.tt_audit.specs.declared.live.LiveNote.{LiveNote}
use Rattle.tt_session.specs.Answers.{AnswersLines}
use Rattle.tt_session.specs.Conversation.{Conversation}
use Rattle.tt_session.specs.Replies.{is_refused}
use Rattle.tt_session.specs.declared.begun.Begun.{Begun}
use Rattle.tt_session.specs.declared.calls.Call.{Call}
use Rattle.tt_session.specs.declared.replies.LineReply.{LineReply}
use Rattle.tt_session.specs.declared.serving.Served.{Served}
use Rattle.tt_stamp.specs.Stamping.{SeatState, IsLegalRun, Continues, entries_of, new_seat}
use Rattle.tt_stamp.specs.declared.commits.Entry.{Entry}
use Rattle.tt_stamp.specs.declared.stampings.Stamping.{Stamping}
use Rattle.tt_node.specs.Working.{WorkerState, Allows}
use Rattle.tt_node.specs.declared.nodes.ServesSession.{ServesSession}
use Rattle.tt_node.specs.declared.nodes.WorkerEnd.{WorkerEnd}

-- this holds of each element and its place, where the first of them has this place
abbrev pub AllFrom : {A : Type 0} → (ℕ → A → Type 0) → ℕ → List A → Type 0
AllFrom Holds place [] = Unit {0}
AllFrom Holds place (x ∷ xs) = Holds place x × AllFrom Holds (place + 1) xs

-- this holds of each element and its place, where the places are counted down, and this number is that before the first of them
abbrev pub AllDown : {A : Type 0} → (ℕ → A → Type 0) → ℕ → List A → Type 0
AllDown Holds end [] = Unit {0}
AllDown Holds end (x ∷ xs) = Holds (end - 1) x × AllDown Holds (end - 1) xs

-- the seat with this number of a new sequencer
abbrev pub IsNewSeat : TableId → ℕ → ℕ → SeatState → Type 0
IsNewSeat table seats number seat = seat ≡ new_seat table seats number

-- it is the same seat later: what it has seen and what it has stamped go on from what they were
pub record IsLater (before after : SeatState) : Type 0 where
  pub table : after.table ≡ before.table
  pub seats : after.seats ≡ before.seats
  pub numbers : after.numbers ≡ before.numbers
  pub seen : Continues before.seen after.seen
  pub own : Continues before.own after.own

-- it is the same watch later: what it has seen goes on from what it was
pub record IsWatchLater (before after : WatchState) : Type 0 where
  pub source : after.source ≡ before.source
  pub drift : after.drift ≡ before.drift
  pub seen : IsPrefix before.items after.items

-- the reading of one of these publications, by a clock with this drift, at a clock reading at which it can be read
abbrev pub IsReadingOf : ℕ → List Publication → Interval → Type 0
IsReadingOf drift items reading = (publication : Publication) × (clock : ℕ) × Contains items publication × CanBeReadAt (fused_span_of publication) clock × (reading ≡ reading_at drift (fused_span_of publication) clock)

-- each noted reading is the reading of one of these publications, by a clock with this drift
abbrev pub AreReadingsOf : ℕ → List Publication → List LiveNote → Type 0
AreReadingsOf drift items notes = All (λ note. IsReadingOf drift items note.reading) notes

-- these are the calls by which a session answered its lines, of which so many were served
pub record IsServed (waits : ℕ) (calls : List Call) (served : Served) : Type 0 where
  pub lines : List (List ℕ)
  pub replies : List LineReply
  pub last : Option Begun
  pub answered : AnswersLines waits None lines calls replies last
  pub lines_are : served.lines ≡ length lines
  pub refused_are : served.refused ≡ count_by is_refused replies

-- a new worker with this session, gate, lease, watch, clock and seat served its session by calls that a worker allows; its end tells its notes and its seat then, and what its watch had seen then, and each noted reading is of something that the watch had seen
pub record ServesWith {C G : Type 0} (gives : C → Option ℕ → C → Type 0) (failed : C → ℕ) (says : G → ℕ → ℕ → Bool → G → Type 0) (hears : G → ℕ → ℕ → G → Type 0)
    (waits session : ℕ) (gate : G) (lease : Interval) (watch : WatchState) (clock : C) (seat : SeatState) (end : WorkerEnd) : Type 0 where
  pub book : List Entry
  pub before : WorkerState C G
  pub after : WorkerState C G
  pub calls : List Call
  pub new : before ≡ record { session = session; gate = gate; calls = 0; watch = watch; clock = clock; seat = seat; lease = lease; notes = []; book = book }
  pub talked : Conversation (Allows gives failed says hears) before calls after
  pub served : IfOk end.served (IsServed waits calls)
  pub notes : end.notes.items ≡ after.notes
  pub seen : end.seen ≡ seen_of after.watch
  pub watch_later : IsWatchLater watch after.watch
  pub readings : AreReadingsOf watch.drift end.seen.items end.notes.items
  pub seat_after : end.seat.value ≡ after.seat
  pub later : IsLater seat end.seat.value

-- the seat has its part of this history: it has seen the beginning of it, and all entries under its numbers are its own
pub record HasPart (history : List Stamping) (seat : SeatState) : Type 0 where
  pub begins : Continues seat.seen history
  pub own : entries_of seat.numbers history ≡ seat.own

-- the worker of this number served its session with this watch and the seat of this number of the sequencer, and the seat has its part of the history
pub record HasShare {C G : Type 0} (gives : C → Option ℕ → C → Type 0) (failed : C → ℕ) (says : G → ℕ → ℕ → Bool → G → Type 0) (hears : G → ℕ → ℕ → G → Type 0)
    (waits : ℕ) (gate : G) (lease : Interval) (watch : WatchState) (table : TableId) (seats : ℕ) (history : List Stamping) (number : ℕ) (end : WorkerEnd) : Type 0 where
  pub clock : C
  pub serves : ServesWith gives failed says hears waits number gate lease watch clock (new_seat table seats number) end
  pub part : HasPart history end.seat.value

-- the thread of a worker serves this session with this gate, lease, watch and seat
pub record IsServing {C G : Type 0} (gate : G) (waits : ℕ) (lease : Interval) (watch : WatchState) (session : ℕ) (seat : SeatState) (promise : ServesSession C G) : Type 0 where
  pub session_is : promise.session ≡ session
  pub waits_are : promise.waits ≡ waits
  pub lease_is : promise.lease ≡ lease
  pub gate_is : promise.gate.value ≡ gate
  pub watch_is : promise.watch.value ≡ watch
  pub seat_is : promise.seat.value ≡ seat

-- the thread of a worker serves the session with this number with this watch and the seat of this number of the sequencer
abbrev pub ServesAt : {C G : Type 0} → TableId → ℕ → G → ℕ → Interval → WatchState → ℕ → ServesSession C G → Type 0
ServesAt table seats gate waits lease watch number promise = IsServing gate waits lease watch number (new_seat table seats number) promise

-- the workers of a node began with equal watches, and drew their stamps from one sequencer, each with the seat of its number: what all of them have stamped is one legal history, and each has its part of it
pub record SharesSequencer {C G : Type 0} (gives : C → Option ℕ → C → Type 0) (failed : C → ℕ) (says : G → ℕ → ℕ → Bool → G → Type 0) (hears : G → ℕ → ℕ → G → Type 0)
    (waits : ℕ) (gate : G) (lease : Interval) (watch : WatchState) (workers : List WorkerEnd) (stamps : SeatState) : Type 0 where
  pub legal : IsLegalRun (length workers) stamps.seen
  pub each : AllFrom (HasShare gives failed says hears waits gate lease watch stamps.table (length workers) stamps.seen) 0 workers

-- what the worker has seen is of this source, and each reading that it noted is of something that it has seen, by a clock with this drift
pub record ReadsBy (source : Source) (drift : ℕ) (end : WorkerEnd) : Type 0 where
  pub source_is : end.seen.source ≡ source
  pub readings : AreReadingsOf drift end.seen.items end.notes.items

-- the worker read nothing but these publications: what it has seen is of their source, and just the first ones of them; and each reading that it noted is the reading of one of them, by a clock with this drift
pub record ReadsPublished (drift : ℕ) (published : Known) (end : WorkerEnd) : Type 0 where
  pub source_is : end.seen.source ≡ published.source
  pub first_ones : IsPrefix end.seen.items published.items
  pub readings : AreReadingsOf drift published.items end.notes.items
