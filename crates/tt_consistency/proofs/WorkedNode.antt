-- Two worked histories of a node, whose two workers share a sequencer and a book, for which every premise of the laws of nodes holds: in the one each worker releases its own commit, and in the other the first worker releases both.
use Rattle.std.proofs.Common.{◌≡◌, ℕ, ◌+◌, ◌<◌, ◌≤◌, List, [], ◌∷◌, Bool, true, is_some, Some, None, Result, Ok, ⊎_elim, refl, sym, subst, arith, All, Contains, append-nil}
use Rattle.std.proofs.lemmas.List.Elements.{All-nil, All-cons}
use Rattle.tt_span.specs.Interval.{whole}
use Rattle.tt_stamp.specs.History.{IsLegalHistory, first_queue_fault, receipt_of, release_of, waiting_of, with_receipts}
use Rattle.tt_stamp.specs.Stamping.{SeatState, new_seat, MayAdd, Gives, stamps_of}
use Rattle.tt_stamp.specs.declared.commits.Entry.{Entry}
use Rattle.tt_stamp.specs.declared.commits.Entry.TheVariants.{Queued, Passed}
use Rattle.tt_stamp.specs.declared.commits.Id.{Id}
use Rattle.tt_stamp.specs.declared.commits.Receipt.{Receipt}
use Rattle.tt_stamp.specs.declared.stampings.Stamping.{Stamping}
use Rattle.tt_stamp.proofs.Ids.{Contains-here, Contains-there, Contains-cases, Contains-nil}
use Rattle.tt_stamp.proofs.Laws.{first_queue_fault-none-iff, IsLegalHistory-release}
use Rattle.tt_node.specs.SharedBooks.{GoesOn}
use Rattle.tt_session.specs.declared.calls.Call.TheVariants.{Begin, Pass}
use Rattle.tt_node.specs.Gating.{Asks}
use Rattle.tt_rounds.specs.Lists.{GivesInTurn}
use Rattle.tt_node.specs.Working.{WorkerState, Works, Allows, after_asking}
use Rattle.tt_node.proofs.Gating.{no-none}
use Rattle.tt_consistency.specs.Order.{IsSeen}
use Rattle.tt_consistency.specs.Worked.{TimedWorker, WasRead, Node, ServesOn, IsWorking, IsSeenAtWorkerOf}
use Rattle.tt_consistency.proofs.WorkedRun.{machine, is_running-0, published-0}
use Rattle.tt_consistency.proofs.WorkedOrder.{Clocks, failed, watch, seat, read_at, looks_at, call_at, is_read, both, first, second}

-- ---- a gate that lets every call pass, and says and hears what the open gate does
abbrev pub says : Unit {0} → ℕ → ℕ → Bool → Unit {0} → Type 0
says before worker call passes after = (passes ≡ true) × (after ≡ before)

abbrev pub hears : Unit {0} → ℕ → ℕ → Unit {0} → Type 0
hears before worker call after = after ≡ before

asks_once : (session calls : ℕ) → Asks says session calls tt true tt
asks_once session calls = (0, tt, omega arith, no-none says session calls tt, (refl, refl))

-- ---- the workers, each with its session, the calls that its gate was asked about, its clock, its seat and its book
abbrev pub worker : ℕ → ℕ → Clocks → SeatState → List Entry → WorkerState Clocks (Unit {0})
worker session calls clock own_seat book = record { session = session; gate = tt; calls = calls; watch = watch; clock = clock; seat = own_seat; lease = whole; notes = []; book = book }

-- a worker after a call, with what the call may change
abbrev pub left_with : WorkerState Clocks (Unit {0}) → Clocks → SeatState → List Entry → WorkerState Clocks (Unit {0})
left_with before clock own_seat book = record before { clock = clock; seat = own_seat; book = book }

works_on : (before : WorkerState Clocks (Unit {0})) (clock : Clocks) (own_seat : SeatState) (book : List Entry) → Works before (left_with before clock own_seat book)
works_on before clock own_seat book = record { session = refl; gate = refl; calls = refl; same = (refl, refl); seen = ([], append-nil before.watch.items); lease = refl }

-- the commit of a session, which has only one
abbrev pub id_of : ℕ → Id
id_of session = record { session = session; number = 1 }

-- ---- a commit begins when the clock shows so much, and has the latest of the reading as its stamp; its worker has seen no book before, and now sees one that another has written
pub begins_at : (session calls clock : ℕ) (later : Clocks) (seat_before seat_after : SeatState) (past : List Entry) → 112 ≤ clock → clock ≤ 1000
    → Gives seat_before seat_after (910 + clock) 0 whole (910 + clock) → IsLegalHistory past → first_queue_fault past (id_of session) (910 + clock) ≡ None
    → Allows GivesInTurn failed says hears (worker session calls (Some clock ∷ later) seat_before []) (Begin 1 0 (Ok (910 + clock)))
    (left_with (after_asking (worker session calls (Some clock ∷ later) seat_before []) tt) later seat_after (Queued (id_of session) (910 + clock) ∷ past))
begins_at session calls clock later seat_before seat_after past late early gives legal none = record {
  passes = true;
  asked = tt;
  done = left_with (after_asking (worker session calls (Some clock ∷ later) seat_before []) tt) later seat_after (Queued (id_of session) (910 + clock) ∷ past);
  asks = asks_once session calls;
  does = (
    λ is. absurd cc,
    record {
      works = works_on (after_asking (worker session calls (Some clock ∷ later) seat_before []) tt) later seat_after (Queued (id_of session) (910 + clock) ∷ past);
      notes = refl;
      begins = (
        Ok (read_at clock),
        looks_at clock later late early,
        (
          Ok (910 + clock),
          (Ok (910 + clock), (λ far. omega (arith, far), gives, omega arith, (omega arith, omega arith)), refl),
          (refl, ((first_queue_fault-none-iff past (id_of session) (910 + clock)).0 none, legal), (past, (past, sym (append-nil past)), none, refl)),
        ),
      );
    },
  );
  told = refl;
  kept = refl;
}

-- ---- and is released when the clock shows so much: then its worker sees a book that goes on from the one that it has seen, and all that has passed there is released
abbrev pub released : ℕ → List Entry → List Entry
released clock past = with_receipts (release_of (waiting_of past) (888 + clock)) past

pub passes_at : (session calls clock : ℕ) (later : Clocks) (own_seat : SeatState) (book past : List Entry) → 112 ≤ clock → clock ≤ 1000
    → GoesOn book past → IsLegalHistory past → ◌≡◌ {A = Result Bool ℕ} (Ok true) (Ok (is_some (receipt_of (released clock past) (id_of session))))
    → Allows GivesInTurn failed says hears (worker session calls (Some clock ∷ later) own_seat book) (Pass 1 (Ok true))
    (left_with (after_asking (worker session calls (Some clock ∷ later) own_seat book) tt) later own_seat (released clock past))
passes_at session calls clock later own_seat book past late early goes legal has = record {
  passes = true;
  asked = tt;
  done = left_with (after_asking (worker session calls (Some clock ∷ later) own_seat book) tt) later own_seat (released clock past);
  asks = asks_once session calls;
  does = (
    λ is. absurd cc,
    record {
      works = works_on (after_asking (worker session calls (Some clock ∷ later) own_seat book) tt) later own_seat (released clock past);
      seat = refl;
      notes = refl;
      passes = (Ok (read_at clock), looks_at clock later late early, (IsLegalHistory-release past (888 + clock) legal, (past, goes, refl), has));
    },
  );
  told = refl;
  kept = refl;
}

-- ---- the sequencer has two seats: the first worker gives a stamp, and then the second one, whose seat has seen that of the first
abbrev pub given : ℕ → ℕ → Stamping
given number stamp = record { number = number; latest = stamp; floor = 0; lease = whole; stamp = stamp }

abbrev pub seat_of : ℕ → List Stamping → List Stamping → SeatState
seat_of number seen own = record (new_seat seat.table 2 number) { seen = seen; own = own }

may_add : (past : List Stamping) (number stamp : ℕ) → number < 2 → stamp ≤ 3000 → All (λ (t : ℕ). t < stamp) (stamps_of past) → MayAdd 2 past (given number stamp)
may_add past number stamp of_a_seat early above = record {
  of_a_seat = of_a_seat;
  near = λ far. omega (arith, far);
  least = record {
    may_give = record { in_time = omega arith; from_latest = omega arith; from_floor = omega arith; from_lease = omega arith; above_all = above };
    least = λ t may. may.from_latest;
  };
  in_lease = omega arith;
}

abbrev pub seat_0 : SeatState
seat_0 = seat_of 0 (given 0 1030 ∷ []) (given 0 1030 ∷ [])

abbrev pub seat_1 : SeatState
seat_1 = seat_of 1 (given 1 1080 ∷ given 0 1030 ∷ []) (given 1 1080 ∷ [])

adds-0 : MayAdd 2 [] (given 0 1030)
adds-0 = may_add [] 0 1030 (omega arith) (omega arith) (All-nil (λ (t : ℕ). t < 1030))

adds-1 : MayAdd 2 (given 0 1030 ∷ []) (given 1 1080)
adds-1 = may_add (given 0 1030 ∷ []) 1 1080 (omega arith) (omega arith) (All-cons (λ (t : ℕ). t < 1080) 1030 [] (omega arith) (All-nil (λ (t : ℕ). t < 1080)))

pub gives-0 : Gives (seat_of 0 [] []) seat_0 1030 0 whole 1030
gives-0 = record { same = record { table = refl; seats = refl; numbers = refl; legal = (adds-0, tt); mine = refl }; number = 0; of_seat = refl; between = []; after = refl; own = refl }

pub gives-1 : Gives (seat_of 1 [] []) seat_1 1080 0 whole 1080
gives-1 = record { same = record { table = refl; seats = refl; numbers = refl; legal = (adds-1, (adds-0, tt)); mine = refl }; number = 1; of_seat = refl; between = given 0 1030 ∷ []; after = refl; own = refl }

-- ---- the book: each worker queues its commit and then writes its receipt
abbrev pub receipt : ℕ → ℕ → ℕ → Receipt
receipt session stamp earliest = record { id = id_of session; stamp = stamp; earliest = earliest }

abbrev pub queued-0 : List Entry
queued-0 = Queued (id_of 0) 1030 ∷ []

abbrev pub passed-0 : List Entry
passed-0 = Passed (receipt 0 1030 1038) ∷ queued-0

abbrev pub queued-1 : List Entry
queued-1 = Queued (id_of 1) 1080 ∷ passed-0

abbrev pub passed-1 : ℕ → List Entry
passed-1 earliest = Passed (receipt 1 1080 earliest) ∷ queued-1

legal_queued : (past : List Entry) (id : Id) (stamp : ℕ) → IsLegalHistory past → first_queue_fault past id stamp ≡ None → IsLegalHistory (Queued id stamp ∷ past)
legal_queued past id stamp legal none = ((first_queue_fault-none-iff past id stamp).0 none, legal)

pub legal_queued-0 : IsLegalHistory queued-0
legal_queued-0 = legal_queued [] (id_of 0) 1030 tt refl

pub legal_passed-0 : IsLegalHistory passed-0
legal_passed-0 = IsLegalHistory-release queued-0 1038 legal_queued-0

pub legal_queued-1 : IsLegalHistory queued-1
legal_queued-1 = legal_queued passed-0 (id_of 1) 1080 legal_passed-0 refl

-- ---- at worker 0 a commit begins when the clock shows 120, and is released when it shows 150
abbrev pub earlier : TimedWorker GivesInTurn failed says hears
earlier = record {
  before = worker 0 0 (Some 120 ∷ Some 150 ∷ []) (seat_of 0 [] []) [];
  after = worker 0 2 [] seat_0 passed-0;
  calls = Begin 1 0 (Ok 1030) ∷ Pass 1 (Ok true) ∷ [];
  talked = (
    worker 0 1 (Some 150 ∷ []) seat_0 queued-0,
    begins_at 0 0 120 (Some 150 ∷ []) (seat_of 0 [] []) seat_0 [] (omega arith) (omega arith) gives-0 tt refl,
    (worker 0 2 [] seat_0 passed-0, passes_at 0 1 150 [] seat_0 queued-0 queued-0 (omega arith) (omega arith) ([], refl) legal_queued-0 refl, refl),
  );
  times = call_at 120 ∷ call_at 150 ∷ [];
}

-- at worker 1 a commit begins when the clock shows 170, and is released when it shows 200
abbrev pub later : TimedWorker GivesInTurn failed says hears
later = record {
  before = worker 1 0 (Some 170 ∷ Some 200 ∷ []) (seat_of 1 [] []) [];
  after = worker 1 2 [] seat_1 (passed-1 1088);
  calls = Begin 1 0 (Ok 1080) ∷ Pass 1 (Ok true) ∷ [];
  talked = (
    worker 1 1 (Some 200 ∷ []) seat_1 queued-1,
    begins_at 1 0 170 (Some 200 ∷ []) (seat_of 1 [] []) seat_1 passed-0 (omega arith) (omega arith) gives-1 legal_passed-0 refl,
    (worker 1 2 [] seat_1 (passed-1 1088), passes_at 1 1 200 [] seat_1 queued-1 queued-1 (omega arith) (omega arith) ([], refl) legal_queued-1 refl, refl),
  );
  times = call_at 170 ∷ call_at 200 ∷ [];
}

abbrev pub node : Node GivesInTurn failed says hears
node = record { machine = machine 0; workers = earlier ∷ later ∷ [] }

-- ---- each receipt in a book is of a reading that one of these workers took
abbrev AllRead : List (TimedWorker GivesInTurn failed says hears) → List Entry → ℕ → Type 0
AllRead workers book time = (of : Receipt) → Contains book (Passed of) → WasRead GivesInTurn failed says hears workers of.earliest time

same_receipt : (one other : Receipt) → ◌≡◌ {A = Entry} (Passed one) (Passed other) → one ≡ other
same_receipt one other is = cc

read_none : (workers : List (TimedWorker GivesInTurn failed says hears)) (time : ℕ) → AllRead workers [] time
read_none workers time of among = absurd (Contains-nil (Passed of) among)

read_queued : (workers : List (TimedWorker GivesInTurn failed says hears)) (id : Id) (stamp : ℕ) (past : List Entry) (time : ℕ) → AllRead workers past time → AllRead workers (Queued id stamp ∷ past) time
read_queued workers id stamp past time there of among = ⊎_elim (λ is. absurd cc) (λ before. there of before) (Contains-cases (Queued id stamp) past (Passed of) among)

read_passed : (workers : List (TimedWorker GivesInTurn failed says hears)) (one : Receipt) (past : List Entry) (time : ℕ) → WasRead GivesInTurn failed says hears workers one.earliest time → AllRead workers past time → AllRead workers (Passed one ∷ past) time
read_passed workers one past time here there of among =
    ⊎_elim
    (λ is. subst (λ (r : Receipt). WasRead GivesInTurn failed says hears workers r.earliest time) (same_receipt one of is) here)
    (λ before. there of before)
    (Contains-cases (Passed one) past (Passed of) among)

read_queued-0 : (workers : List (TimedWorker GivesInTurn failed says hears)) (time : ℕ) → AllRead workers queued-0 time
read_queued-0 workers time = read_queued workers (id_of 0) 1030 [] time (read_none workers time)

read_passed-0 : (workers : List (TimedWorker GivesInTurn failed says hears)) (time : ℕ) → WasRead GivesInTurn failed says hears workers 1038 time → AllRead workers passed-0 time
read_passed-0 workers time is = read_passed workers (receipt 0 1030 1038) queued-0 time is (read_queued-0 workers time)

-- worker 1 has seen the receipt of worker 0 as soon as its own commit is queued
read_queued-1 : (workers : List (TimedWorker GivesInTurn failed says hears)) (time : ℕ) → WasRead GivesInTurn failed says hears workers 1038 time → AllRead workers queued-1 time
read_queued-1 workers time is = read_queued workers (id_of 1) 1080 passed-0 time (read_passed-0 workers time is)

read_passed-1 : (workers : List (TimedWorker GivesInTurn failed says hears)) (earliest time : ℕ) → WasRead GivesInTurn failed says hears workers 1038 time → WasRead GivesInTurn failed says hears workers earliest time → AllRead workers (passed-1 earliest) time
read_passed-1 workers earliest time is is_too = read_passed workers (receipt 1 1080 earliest) queued-1 time is_too (read_queued-1 workers time is)

-- the receipt of each commit is of the second reading of its own worker
was_read-0 : (time : ℕ) → 1050 ≤ time → WasRead GivesInTurn failed says hears node.workers 1038 time
unfolding begins_at passes_at
was_read-0 time by = record {
  worker = earlier;
  among = Contains-here earlier (later ∷ []);
  place = 1;
  look = record { watch = watch; before = Some 150 ∷ []; after = []; answer = Ok (read_at 150) };
  reading = read_at 150;
  looked = refl;
  gave = refl;
  earliest_is = refl;
  by_then = by;
}

was_read-1 : (time : ℕ) → 1100 ≤ time → WasRead GivesInTurn failed says hears node.workers 1088 time
unfolding begins_at passes_at
was_read-1 time by = record {
  worker = later;
  among = Contains-there earlier (later ∷ []) later (Contains-here later []);
  place = 1;
  look = record { watch = watch; before = Some 200 ∷ []; after = []; answer = Ok (read_at 200) };
  reading = read_at 200;
  looked = refl;
  gave = refl;
  earliest_is = refl;
  by_then = by;
}

-- ---- both serve on the node
serves-0 : ServesOn GivesInTurn failed says hears node earlier
unfolding begins_at passes_at
serves-0 = record {
  in_order = (omega arith, omega arith, omega arith, (omega arith, omega arith, omega arith, tt));
  look = (
    (([], sym published-0), is_read 0 120 (Some 150 ∷ []) (omega arith) (omega arith)),
    ((([], sym published-0), is_read 0 150 [] (omega arith) (omega arith)), refl),
  );
  book = (read_queued-0 node.workers 1021, (read_passed-0 node.workers 1051 (was_read-0 1051 (omega arith)), refl));
}

serves-1 : ServesOn GivesInTurn failed says hears node later
unfolding begins_at passes_at
serves-1 = record {
  in_order = (omega arith, omega arith, omega arith, (omega arith, omega arith, omega arith, tt));
  look = (
    (([], sym published-0), is_read 0 170 (Some 200 ∷ []) (omega arith) (omega arith)),
    ((([], sym published-0), is_read 0 200 [] (omega arith) (omega arith)), refl),
  );
  book = (read_queued-1 node.workers 1071 (was_read-0 1071 (omega arith)), (read_passed-1 node.workers 1088 1101 (was_read-0 1101 (omega arith)) (was_read-1 1101 (omega arith)), refl));
}

-- ---- so all premises of the laws hold: the node works, and each commit was seen at a worker of it
pub works : IsWorking GivesInTurn failed says hears node
works = record { running = is_running-0; serve = both (ServesOn GivesInTurn failed says hears node) earlier later serves-0 serves-1 }

first_seen : IsSeen earlier.calls earlier.times first
first_seen = record { number = 1; begun = 0; released = 1; committed = record { begins = (0, refl); releases = refl; later = omega arith }; began = omega arith; ended = omega arith }

second_seen : IsSeen later.calls later.times second
second_seen = record { number = 1; begun = 0; released = 1; committed = record { begins = (0, refl); releases = refl; later = omega arith }; began = omega arith; ended = omega arith }

pub all_seen : All (IsSeenAtWorkerOf GivesInTurn failed says hears (node ∷ [])) (first ∷ second ∷ [])
all_seen =
    both (IsSeenAtWorkerOf GivesInTurn failed says hears (node ∷ [])) first second
    (record { node = node; among = Contains-here node []; worker = earlier; of_node = Contains-here earlier (later ∷ []); seen = first_seen })
    (record { node = node; among = Contains-here node []; worker = later; of_node = Contains-there earlier (later ∷ []) later (Contains-here later []); seen = second_seen })

-- ---- the other history has one more call: worker 0 asks once more when its clock shows 195, and so it releases the commit of worker 1, which finds that receipt when it asks
pub legal_passed-1 : IsLegalHistory (passed-1 1083)
legal_passed-1 = IsLegalHistory-release queued-1 1083 legal_queued-1

abbrev pub releaser : TimedWorker GivesInTurn failed says hears
releaser = record {
  before = worker 0 0 (Some 120 ∷ Some 150 ∷ Some 195 ∷ []) (seat_of 0 [] []) [];
  after = worker 0 3 [] seat_0 (passed-1 1083);
  calls = Begin 1 0 (Ok 1030) ∷ Pass 1 (Ok true) ∷ Pass 1 (Ok true) ∷ [];
  talked = (
    worker 0 1 (Some 150 ∷ Some 195 ∷ []) seat_0 queued-0,
    begins_at 0 0 120 (Some 150 ∷ Some 195 ∷ []) (seat_of 0 [] []) seat_0 [] (omega arith) (omega arith) gives-0 tt refl,
    (
      worker 0 2 (Some 195 ∷ []) seat_0 passed-0,
      passes_at 0 1 150 (Some 195 ∷ []) seat_0 queued-0 queued-0 (omega arith) (omega arith) ([], refl) legal_queued-0 refl,
      (worker 0 3 [] seat_0 (passed-1 1083), passes_at 0 2 195 [] seat_0 passed-0 queued-1 (omega arith) (omega arith) (Queued (id_of 1) 1080 ∷ [], refl) legal_queued-1 refl, refl),
    ),
  );
  times = call_at 120 ∷ call_at 150 ∷ call_at 195 ∷ [];
}

abbrev pub asker : TimedWorker GivesInTurn failed says hears
asker = record {
  before = worker 1 0 (Some 170 ∷ Some 200 ∷ []) (seat_of 1 [] []) [];
  after = worker 1 2 [] seat_1 (passed-1 1083);
  calls = Begin 1 0 (Ok 1080) ∷ Pass 1 (Ok true) ∷ [];
  talked = (
    worker 1 1 (Some 200 ∷ []) seat_1 queued-1,
    begins_at 1 0 170 (Some 200 ∷ []) (seat_of 1 [] []) seat_1 passed-0 (omega arith) (omega arith) gives-1 legal_passed-0 refl,
    (worker 1 2 [] seat_1 (passed-1 1083), passes_at 1 1 200 [] seat_1 queued-1 (passed-1 1083) (omega arith) (omega arith) (Passed (receipt 1 1080 1083) ∷ [], refl) legal_passed-1 refl, refl),
  );
  times = call_at 170 ∷ call_at 200 ∷ [];
}

abbrev pub node_across : Node GivesInTurn failed says hears
node_across = record { machine = machine 0; workers = releaser ∷ asker ∷ [] }

-- both receipts are of readings of worker 0
was_read_across-0 : (time : ℕ) → 1050 ≤ time → WasRead GivesInTurn failed says hears node_across.workers 1038 time
unfolding begins_at passes_at
was_read_across-0 time by = record {
  worker = releaser;
  among = Contains-here releaser (asker ∷ []);
  place = 1;
  look = record { watch = watch; before = Some 150 ∷ Some 195 ∷ []; after = Some 195 ∷ []; answer = Ok (read_at 150) };
  reading = read_at 150;
  looked = refl;
  gave = refl;
  earliest_is = refl;
  by_then = by;
}

was_read_across-1 : (time : ℕ) → 1095 ≤ time → WasRead GivesInTurn failed says hears node_across.workers 1083 time
unfolding begins_at passes_at
was_read_across-1 time by = record {
  worker = releaser;
  among = Contains-here releaser (asker ∷ []);
  place = 2;
  look = record { watch = watch; before = Some 195 ∷ []; after = []; answer = Ok (read_at 195) };
  reading = read_at 195;
  looked = refl;
  gave = refl;
  earliest_is = refl;
  by_then = by;
}

serves_across-0 : ServesOn GivesInTurn failed says hears node_across releaser
unfolding begins_at passes_at
serves_across-0 = record {
  in_order = (omega arith, omega arith, omega arith, (omega arith, omega arith, omega arith, (omega arith, omega arith, omega arith, tt)));
  look = (
    (([], sym published-0), is_read 0 120 (Some 150 ∷ Some 195 ∷ []) (omega arith) (omega arith)),
    (
      (([], sym published-0), is_read 0 150 (Some 195 ∷ []) (omega arith) (omega arith)),
      ((([], sym published-0), is_read 0 195 [] (omega arith) (omega arith)), refl),
    ),
  );
  book = (
    read_queued-0 node_across.workers 1021,
    (
      read_passed-0 node_across.workers 1051 (was_read_across-0 1051 (omega arith)),
      (read_passed-1 node_across.workers 1083 1096 (was_read_across-0 1096 (omega arith)) (was_read_across-1 1096 (omega arith)), refl),
    ),
  );
}

serves_across-1 : ServesOn GivesInTurn failed says hears node_across asker
unfolding begins_at passes_at
serves_across-1 = record {
  in_order = (omega arith, omega arith, omega arith, (omega arith, omega arith, omega arith, tt));
  look = (
    (([], sym published-0), is_read 0 170 (Some 200 ∷ []) (omega arith) (omega arith)),
    ((([], sym published-0), is_read 0 200 [] (omega arith) (omega arith)), refl),
  );
  book = (
    read_queued-1 node_across.workers 1071 (was_read_across-0 1071 (omega arith)),
    (read_passed-1 node_across.workers 1083 1101 (was_read_across-0 1101 (omega arith)) (was_read_across-1 1101 (omega arith)), refl),
  );
}

pub works_across : IsWorking GivesInTurn failed says hears node_across
works_across = record { running = is_running-0; serve = both (ServesOn GivesInTurn failed says hears node_across) releaser asker serves_across-0 serves_across-1 }

first_seen_across : IsSeen releaser.calls releaser.times first
first_seen_across = record { number = 1; begun = 0; released = 1; committed = record { begins = (0, refl); releases = refl; later = omega arith }; began = omega arith; ended = omega arith }

second_seen_across : IsSeen asker.calls asker.times second
second_seen_across = record { number = 1; begun = 0; released = 1; committed = record { begins = (0, refl); releases = refl; later = omega arith }; began = omega arith; ended = omega arith }

pub all_seen_across : All (IsSeenAtWorkerOf GivesInTurn failed says hears (node_across ∷ [])) (first ∷ second ∷ [])
all_seen_across =
    both (IsSeenAtWorkerOf GivesInTurn failed says hears (node_across ∷ [])) first second
    (record { node = node_across; among = Contains-here node_across []; worker = releaser; of_node = Contains-here releaser (asker ∷ []); seen = first_seen_across })
    (record { node = node_across; among = Contains-here node_across []; worker = asker; of_node = Contains-there releaser (asker ∷ []) asker (Contains-here asker []); seen = second_seen_across })
