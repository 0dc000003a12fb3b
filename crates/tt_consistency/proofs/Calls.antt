-- What one call of a station says: of its answer and of its book.
use Rattle.std.proofs.Common.{◌≡◌, ℕ, ◌+◌, ◌≤◌, max, nat_lt, if◌then◌else◌, List, ◌∷◌, Bool, true, false, Option, Some, None, Result, Ok, Err, refl, ap, subst, arith}
use Rattle.std.specs.Prelude.{IfOk, MatchBool, MatchOption, IsOkUnless}
use Rattle.tt_span.specs.Interval.{Interval, Holds}
use Rattle.tt_stamp.specs.History.{receipt_of, first_queue_fault, IsLegalHistory, MayQueue, Waits}
use Rattle.tt_stamp.specs.Stamping.{SeatState, Gives}
use Rattle.tt_stamp.specs.Steps.{Stamps}
use Rattle.tt_stamp.specs.declared.commits.Id.{Id}
use Rattle.tt_stamp.specs.declared.commits.Entry.{Entry}
use Rattle.tt_stamp.specs.declared.commits.Entry.TheVariants.{Queued}
use Rattle.tt_stamp.specs.declared.commits.Receipt.{Receipt}
use Rattle.tt_stamp.specs.declared.faults.StampFault.{StampFault}
use Rattle.tt_stamp.specs.declared.faults.StampFault.TheVariants as stamp
use Rattle.tt_stamp.specs.declared.faults.BookFault.{BookFault}
use Rattle.tt_stamp.specs.declared.faults.BookFault.TheVariants as book
use Rattle.tt_stamp.proofs.Laws.{first_queue_fault-none-iff}
use Rattle.tt_session.specs.Desk.{Queues, AnswersQueued}
use Rattle.tt_session.specs.declared.calls.Call.{Call}
use Rattle.tt_session.specs.declared.calls.Call.TheVariants as call
use Rattle.tt_connections.specs.Fault.{number_of}
use Rattle.tt_connections.specs.Station.{StationState, StampsIn, room_of, Allows, AnswersReading, AnswersReceipt, BeginsAt, CommitsAt, PassesAt, QueuesStamped, Keeps as KeepsAll, id_at, book_before}
use Rattle.tt_connections.specs.declared.faults.StationFault.TheVariants.{FloorAboveCap, ClientLeft}
use Rattle.tt_connections.specs.declared.presence.Question.{Question}
use Rattle.tt_consistency.specs.Timed.{given_of}
use Rattle.tt_consistency.proofs.Books.{Keeps, keeps-same, keeps-page, keeps-queued, keeps-release, waits-no_receipt}

-- ---- one queueing
queue_may : (fault : Option BookFault) → MatchOption fault (IsOkUnless {T = Unit {0}} (Ok tt) book.Memory) (λ f. ◌≡◌ {A = Result (Unit {0}) BookFault} (Ok tt) (Err f)) → fault ≡ None
queue_may None says = refl
queue_may (Some fault) says = absurd (cc)

queued_may : (old new : List Entry) (id : Id) (stamp : ℕ) → Queues old id stamp (Ok tt) new → MayQueue old id stamp
queued_may old new id stamp queues =
    (first_queue_fault-none-iff old id stamp).0 (queue_may (first_queue_fault old id stamp) queues.fault)

-- ---- what a seat does
-- a stamp that was given there was given in it
given_in_room : (room reading : Interval) (floor : ℕ) (old new : SeatState) (t : ℕ) (over : Bool)
    → MatchBool over (◌≡◌ {A = Result ℕ StampFault} (Ok t) (Err stamp.LeaseOver) × (new ≡ old)) (Stamps floor room reading old (Ok t) new) → Stamps floor room reading old (Ok t) new
given_in_room room reading floor old new t true says = absurd (let is = says.0 in cc)
given_in_room room reading floor old new t false says = says

-- a commit that began: it was given this stamp by its reading, and queued with it
pub record Began {C V : Type 0} (before after : StationState C V) (number floor stamp : ℕ) (reading : Interval) : Type 0 where
  pub gave : Gives before.post.seat after.post.seat reading.hi floor (room_of before floor reading) stamp
  pub late : reading.hi ≤ stamp
  pub inside : Holds (room_of before floor reading) stamp
  pub book : after.book ≡ Queued (id_at number) stamp ∷ book_before before.book

module _ {C V : Type 0} (before after : StationState C V) (number floor : ℕ) where
  -- ---- where a commit began
  module _ (s : ℕ) (reading : Interval) where
    began_queued : (t : ℕ) → Gives before.post.seat after.post.seat reading.hi floor (room_of before floor reading) t → reading.hi ≤ t → Holds (room_of before floor reading) t → (queued : Result (Unit {0}) BookFault) → Queues (book_before before.book) (id_at number) t queued after.book → AnswersQueued t (Ok s) queued → Began before after number floor s reading
    began_queued t gave late inside (Err fault) queues answers = absurd (cc)
    began_queued t gave late inside (Ok done) queues answers =
        let same : t ≡ s = cc in
        subst (λ (n : ℕ). Began before after number floor n reading) same (record { gave = gave; late = late; inside = inside; book = queues.ok })

    began_stamped : (stamped : Result ℕ StampFault) → StampsIn (room_of before floor reading) floor reading before.post.seat stamped after.post.seat → QueuesStamped before.book number (Ok s) after.book stamped → Began before after number floor s reading
    began_stamped (Ok t) stamps queues =
        let room = room_of before floor reading in
        let inside = given_in_room room reading floor before.post.seat after.post.seat t (nat_lt room.hi room.lo) stamps in
        began_queued t inside.1 inside.2 inside.3 queues.0 queues.1 queues.2
    began_stamped (Err fault) stamps queues = absurd (let is = queues.0 in cc)

    began_capped : (capped : Bool) → MatchBool capped (◌≡◌ {A = Result ℕ ℕ} (Ok s) (Err (number_of FloorAboveCap)) × KeepsAll before after) (CommitsAt before number floor reading (Ok s) after) → Began before after number floor s reading
    began_capped true says = absurd (let is = says.0 in cc)
    began_capped false says = began_stamped says.0 says.1 says.2

  pub began-at : (s : ℕ) (given : Result Interval ℕ) → BeginsAt before number floor (Ok s) after given → (reading : Interval) × (given ≡ Ok reading) × Began before after number floor s reading
  began-at s (Ok reading) says = (reading, refl, began_capped s reading (nat_lt (reading.hi + before.post.ahead) (max floor before.lease.lo)) says)
  began-at s (Err fault) says = absurd (let is = says.0 in cc)

  -- ---- what a begin leaves of book and seat, whatever it answers
  module _ (answer : Result ℕ ℕ) (time : ℕ) (legal : IsLegalHistory before.book) where
    keeps_queue : (t : ℕ) (queued : Result (Unit {0}) BookFault) → Queues (book_before before.book) (id_at number) t queued after.book → Keeps before.book after.book time
    keeps_queue t (Ok tt) queues =
        keeps-queued before.book after.book time (id_at number) t legal (queued_may (book_before before.book) after.book (id_at number) t queues) queues.ok
    keeps_queue t (Err fault) queues = keeps-page before.book after.book time legal queues.err

    keeps_stamped : (stamped : Result ℕ StampFault) → QueuesStamped before.book number answer after.book stamped → Keeps before.book after.book time
    keeps_stamped (Ok t) queues = keeps_queue t queues.0 queues.1
    keeps_stamped (Err fault) queues = keeps-same before.book after.book time legal queues.1

    keeps_reading : (reading : Interval) (capped : Bool) → MatchBool capped ((answer ≡ Err (number_of FloorAboveCap)) × KeepsAll before after) (CommitsAt before number floor reading answer after) → Keeps before.book after.book time
    keeps_reading reading true says = keeps-same before.book after.book time legal says.1.book
    keeps_reading reading false says = keeps_stamped says.0 says.2

    pub keeps-begin : (given : Result Interval ℕ) → BeginsAt before number floor answer after given → Keeps before.book after.book time
    keeps-begin (Ok reading) says = keeps_reading reading (nat_lt (reading.hi + before.post.ahead) (max floor before.lease.lo)) says
    keeps-begin (Err fault) says = keeps-same before.book after.book time legal says.1.book

module _ {C V : Type 0} (says : V → Question → Bool → Type 0) (before after : StationState C V) where
  -- ---- a release step
  keeps_pass : (number : ℕ) (answer : Result Bool ℕ) (time : ℕ) → IsLegalHistory before.book → (given : Result Interval ℕ) → IfOk given (λ reading. Holds reading time) → PassesAt says before number answer after given → Keeps before.book after.book time
  keeps_pass number answer time legal (Ok reading) holds passes =
      keeps-release before.book after.book time reading.lo legal holds.0 passes.1
  keeps_pass number answer time legal (Err fault) holds passes =
      keeps-same before.book after.book time legal passes.1.book

  keeps_now : (answer : Result Interval ℕ) (given : Result Interval ℕ) → AnswersReading before answer after given → KeepsAll before after
  keeps_now answer given reads = reads.1

  no_yes : (left : Bool) → ◌≡◌ {A = Result Bool ℕ} (Ok true) (if left then Err (number_of ClientLeft) else Ok false) → ⊥
  no_yes true is = cc
  no_yes false is = cc

  yes_receipt : (receipt : Option Receipt) → AnswersReceipt says before.client (Ok true) receipt → (found : Receipt) × (receipt ≡ Some found)
  yes_receipt None answers = absurd (no_yes answers.0 answers.2)
  yes_receipt (Some found) answers = (found, refl)

  -- a commit that is said to be released does not wait
  pub released-at : (number s : ℕ) → IsLegalHistory after.book → (given : Result Interval ℕ) → PassesAt says before number (Ok true) after given → Waits after.book (id_at number) s → ⊥
  released-at number s legal (Ok reading) passes waits =
      let found = yes_receipt (receipt_of after.book (id_at number)) passes.2 in
      waits-no_receipt after.book (id_at number) s legal waits found.0 found.1
  released-at number s legal (Err fault) passes waits = absurd (let is = passes.0 in cc)

module _ {C V : Type 0} (gives : C → Option ℕ → C → Type 0) (failed : C → ℕ) (says : V → Question → Bool → Type 0) (before after : StationState C V) where
  -- ---- any call
  pub keeps-call : (of : Call) (allowed : Allows gives failed says before of after) (time : ℕ) → IsLegalHistory before.book → IfOk (given_of gives failed says before of after allowed) (λ reading. Holds reading time) → Keeps before.book after.book time
  keeps-call (call.Now answer) allowed time legal holds =
      keeps-same before.book after.book time legal (keeps_now says before after answer allowed.given allowed.rest).book
  keeps-call (call.Begin number floor answer) allowed time legal holds =
      keeps-begin before after number floor answer time legal allowed.given allowed.rest
  keeps-call (call.Lease lo hi answer) allowed time legal holds =
      keeps-same before.book after.book time legal (ap (λ (s : StationState C V). s.book) allowed.set)
  keeps-call (call.Pass number answer) allowed time legal holds =
      keeps_pass says before after number answer time legal allowed.given holds allowed.rest

  pub begin-call : (of : Call) (number floor s : ℕ) → of ≡ call.Begin number floor (Ok s) → Allows gives failed says before of after → (reading : Interval) × Began before after number floor s reading
  begin-call of number floor s is allowed =
      let begins : Allows gives failed says before (call.Begin number floor (Ok s)) after = subst (λ (c : Call). Allows gives failed says before c after) is allowed in
      let began = began-at before after number floor s begins.given begins.rest in
      (began.0, began.2)

  pub pass-call : (of : Call) (number s : ℕ) → of ≡ call.Pass number (Ok true) → Allows gives failed says before of after → IsLegalHistory after.book → Waits after.book (id_at number) s → ⊥
  pass-call of number s is allowed legal waits =
      let passes : Allows gives failed says before (call.Pass number (Ok true)) after = subst (λ (c : Call). Allows gives failed says before c after) is allowed in
      released-at says before after number s legal passes.given passes.rest waits

  -- the stamp is no less than the time that the reading holds
  stamp_at : (number floor s time : ℕ) (given : Result Interval ℕ) → IfOk given (λ reading. Holds reading time) → BeginsAt before number floor (Ok s) after given → time ≤ s
  stamp_at number floor s time given holds begins =
      let began = began-at before after number floor s given begins in
      let held : Holds began.0 time = subst (λ (l : Result Interval ℕ). IfOk l (λ reading. Holds reading time)) began.1 holds in
      omega (arith, held.1, began.2.late)

  answer_of : (n f number floor s : ℕ) (answer : Result ℕ ℕ) → ◌≡◌ {A = Call} (call.Begin n f answer) (call.Begin number floor (Ok s)) → answer ≡ Ok s
  answer_of n f number floor s answer is = cc

  pub stamp-call : (of : Call) (allowed : Allows gives failed says before of after) (number floor s time : ℕ) → of ≡ call.Begin number floor (Ok s) → IfOk (given_of gives failed says before of after allowed) (λ reading. Holds reading time) → time ≤ s
  stamp-call (call.Now answer) allowed number floor s time is holds = absurd (cc)
  stamp-call (call.Begin n f answer) allowed number floor s time is holds =
      stamp_at n f s time allowed.given holds (subst (λ (a : Result ℕ ℕ). BeginsAt before n f a after allowed.given) (answer_of n f number floor s answer is) allowed.rest)
  stamp-call (call.Lease lo hi answer) allowed number floor s time is holds = absurd (cc)
  stamp-call (call.Pass n answer) allowed number floor s time is holds = absurd (cc)
