-- A worked life with two workers, for which every premise of the law of the list of a life holds: its daemon publishes once, and each worker serves one session, which commits. The second worker reads and stamps while the first waits, and their clock readings and stamps rise in true time.
use Rattle.std.proofs.Common.{◌≡◌, ◌≢◌, ℕ, ◌+◌, ◌<◌, ◌≤◌, ◌^◌, List, [], ◌∷◌, ◌++◌, length, map, Bool, true, false, cond, eqb, Option, Some, None, Result, Ok, Err, inl, inr, refl, sym, ap, subst, arith}
use Rattle.std.specs.Prelude.{MatchBool}
use Rattle.std.specs.List.{AllByRecursion, flat_map}
use Rattle.std.proofs.lemmas.List.Elements.{All-nil, All-cons}
use Rattle.atomic_table.specs.Seated.{TableId}
use Rattle.tt_span.specs.Interval.{Interval, whole}
use Rattle.tt_span.specs.Time.{max_time}
use Rattle.tt_publish.specs.Known.{WatchState}
use Rattle.tt_publish.specs.Reading.{fused_span_of}
use Rattle.tt_clock.specs.Clock.{ClockState, MachineGives}
use Rattle.tt_stamp.specs.Stamping.{Gives as GaveStamp, IsLegalRun, SeatState, new_seat}
use Rattle.tt_stamp.specs.declared.commits.Entry.TheVariants.{Queued, Passed}
use Rattle.tt_stamp.specs.declared.stampings.Stamping.{Stamping}
use Rattle.tt_session.specs.Conversation.{Conversation}
use Rattle.tt_session.specs.Lines.{HasNoEnd, ended}
use Rattle.tt_session.specs.Replies.{text_of}
use Rattle.tt_session.specs.Session.{Session}
use Rattle.tt_session.specs.declared.begun.Begun.{Begun}
use Rattle.tt_session.specs.declared.calls.Call.{Call}
use Rattle.tt_session.specs.declared.calls.Call.TheVariants as call
use Rattle.tt_session.specs.declared.replies.LineReply.{LineReply}
use Rattle.tt_session.specs.declared.replies.LineReply.TheVariants as reply
use Rattle.tt_session.specs.declared.requests.Request.TheVariants as request
use Rattle.tt_session.specs.declared.serving.Served.{Served}
use Rattle.tt_connections.specs.Client.{ClientSays}
use Rattle.tt_connections.specs.Fault.{number_of}
use Rattle.tt_connections.specs.Sessions.{WorkerSession, AreServedBetween, IsServedBetween}
use Rattle.tt_connections.specs.Station.{Allows, CommitsAt, Keeps, PassesAt, PostState, StationState, id_at, new_station}
use Rattle.tt_connections.specs.Turns.{AllowsOn}
use Rattle.tt_connections.specs.declared.faults.StationFault.TheVariants.{FloorAboveCap}
use Rattle.tt_connections.proofs.Leasing.{stamps_whole}
use Rattle.tt_connections.proofs.Turning.{post-same, talks-on}
use Rattle.tt_workers.specs.Happening.{AreAllByTurns, AreOfSessions, LeadFrom, WorkerEvent, calls_at}
use Rattle.tt_world.specs.Life.{life_at}
use Rattle.tt_world.specs.declared.workers.Arrival.{Arrival}
use Rattle.tt_consistency.specs.Assumed.{moments_in}
use Rattle.tt_consistency.specs.Cuts.{IsToldOf}
use Rattle.tt_consistency.specs.Lives.{IsLife, Life, WorkerLife, WorksIn}
use Rattle.tt_consistency.specs.Reads.{IsNoEarlier}
use Rattle.tt_consistency.specs.Sequencer.{ShareOneSequencer}
use Rattle.tt_consistency.specs.Timeline.{BeginsLife, Timed}
use Rattle.tt_consistency.proofs.Beginning.{begins-life}
use Rattle.tt_consistency.proofs.WorkedOrder.{admitted, among-by, below_cap, fused, queues_at, read_at, reads_at, receipt, seat}
use Rattle.tt_consistency.proofs.WorkedLife.{clock_at, commit_line, failed, is_assumed, is_taken, looks_at, no_end_commit, seen, spells_commit, unseen}
use Rattle.tt_consistency.proofs.WorkedRun.{call_of, is_running-0, one, published-0, start, timeline_of}
use Rattle.tt_life_events.specs.Acts.{IsUnworked, LifeDone, Reads, shown_by, shown_in, time_in}
use Rattle.tt_life_events.specs.Lists.{HasOneList, IsWorkedList}
use Rattle.tt_life_events.specs.Merging.{AreInOrder, Does, IsMerge, IsMergeOf, IsOneListWith, Stamps, stamps_in}
use Rattle.tt_life_events.specs.Threads.{AreOfWorkers, AreOwn, AreSince, ClockRises, daemon_list}
use Rattle.tt_life_events.specs.Turns.{AllTurnsOf, AreTimed, IsListOf, TurnsOf, WorkTimes}
use Rattle.tt_life_events.proofs.CutLists.{cut-one}
use Rattle.tt_life_events.proofs.Doing.{begun-here, seen-here}
use Rattle.tt_life_events.proofs.Following.{restarts-unworked}
use Rattle.tt_life_events.proofs.Lives.{whole as whole_cut}
use Rattle.tt_life_events.proofs.Merges.{before-merge}
use Rattle.tt_life_events.proofs.Parts.{all-merge, all-workers, merge-size}

-- ---- one sequencer with two seats, which give a stamp each

abbrev pub table : TableId
table = seat.table

abbrev pub entry : ℕ → ℕ → Stamping
entry number stamp = record { number = number; latest = stamp; floor = 0; lease = whole; stamp = stamp }

abbrev pub first : List Stamping
first = entry 0 1030 ∷ []

abbrev pub both : List Stamping
both = entry 1 1050 ∷ first

pub legal_first : IsLegalRun 2 first
legal_first = (
  record {
    of_a_seat = omega arith;
    near = λ far. omega (arith, far);
    least = record {
      may_give = record { in_time = omega arith; from_latest = omega arith; from_floor = omega arith; from_lease = omega arith; above_all = All-nil (λ (t : ℕ). t < 1030) };
      least = λ t may. may.from_latest;
    };
    in_lease = omega arith;
  },
  tt,
)

pub legal_both : IsLegalRun 2 both
legal_both = (
  record {
    of_a_seat = omega arith;
    near = λ far. omega (arith, far);
    least = record {
      may_give = record { in_time = omega arith; from_latest = omega arith; from_floor = omega arith; from_lease = omega arith; above_all = All-cons (λ (t : ℕ). t < 1050) 1030 [] (omega arith) (All-nil (λ (t : ℕ). t < 1050)) };
      least = λ t may. may.from_latest;
    };
    in_lease = omega arith;
  },
  legal_first,
)

-- the seat of a worker at the beginning, and after its stamp
abbrev pub seat_of : ℕ → SeatState
seat_of number = new_seat table 2 number

abbrev pub seat_0 : SeatState
seat_0 = record (seat_of 0) { seen = first; own = first }

abbrev pub seat_1 : SeatState
seat_1 = record (seat_of 1) { seen = both; own = entry 1 1050 ∷ [] }

pub gave_0 : GaveStamp (seat_of 0) seat_0 1030 0 whole 1030
gave_0 = record { same = record { table = refl; seats = refl; numbers = refl; legal = legal_first; mine = refl }; number = 0; of_seat = refl; between = []; after = refl; own = refl }

pub gave_1 : GaveStamp (seat_of 1) seat_1 1050 0 whole 1050
gave_1 = record { same = record { table = refl; seats = refl; numbers = refl; legal = legal_both; mine = refl }; number = 1; of_seat = refl; between = first; after = refl; own = refl }

-- ---- a clock that shows 900 less than the true time

abbrev pub Shows : LifeDone → Type 0
Shows done = (shown : ℕ) → shown + 900 ≤ done.at → (shown ≤ shown_by done.deed shown) × (shown_by done.deed shown + 900 ≤ done.at)

pub last-by : (past : List LifeDone) (at : ℕ) → AreInOrder at past → 990 ≤ at → time_in 990 past ≤ at
last-by [] at order since = since
last-by (done ∷ past) at order since = order.0

pub rises : (all : List LifeDone) (top : ℕ) → AreInOrder top all → AreSince 990 all → AllByRecursion Shows all → ClockRises 90 all × (shown_in 90 all + 900 ≤ time_in 990 all)
rises [] top order since shows = (tt, omega arith)
rises (done ∷ past) top order since shows =
    let before = rises past done.at order.1 since.1 shows.1 in
    let by : time_in 990 past ≤ done.at = last-by past done.at order.1 since.0 in
    let step = shows.0 (shown_in 90 past) (omega (arith, before.1)) in
    ((step.0, before.0), step.1)

-- ---- a worker that serves one session, of one line: a commit begins when the clock shows the first of these, and is released when it shows the second
module _ (w : ℕ) (old new : SeatState) (begins passes : ℕ) where
  abbrev pub post : WatchState → ClockState → SeatState → PostState ClockState
  post watch clock seat = record { watch = watch; clock = clock; seat = seat; lease = whole; stampers = None; ahead = 0; max_width = 1000 }

  abbrev pub station : StationState ClockState (Unit {0})
  station = new_station (post unseen (clock_at 0) old) tt

  abbrev pub begun : StationState ClockState (Unit {0})
  begun = record { post = post seen (clock_at begins) new; client = tt; lease = whole; book = Queued (id_at 1) (910 + begins) ∷ [] }

  abbrev pub released : StationState ClockState (Unit {0})
  released = record { post = post seen (clock_at passes) new; client = tt; lease = whole; book = Passed (receipt (910 + begins) (888 + passes)) ∷ Queued (id_at 1) (910 + begins) ∷ [] }

  abbrev pub of_begin : Call
  of_begin = call.Begin 1 0 (Ok (910 + begins))

  abbrev pub of_pass : Call
  of_pass = call.Pass 1 (Ok true)

  abbrev pub calls : List Call
  calls = of_begin ∷ of_pass ∷ []

  abbrev pub replies : List LineReply
  replies = reply.Committed 1 (910 + begins) ∷ []

  abbrev pub served : Served
  served = record { lines = 1; refused = 0 }

  abbrev pub last : Option Begun
  last = Some (record { number = 1; stamp = 910 + begins; is_released = true })

  -- the true time is 900 more than the clock shows
  abbrev pub times : List WorkTimes
  times =
      record { came = 899 + begins; read = 900 + begins; stamped = 901 + begins; answered = 902 + begins }
      ∷ record { came = 899 + passes; read = 900 + passes; stamped = 900 + passes; answered = 901 + passes }
      ∷ []

  -- what it did: it read, and stamped by that, and read again
  abbrev pub commit : Arrival
  commit = record { id = id_at 1; floor = 0 }

  abbrev pub read : ℕ → Option Arrival → LifeDone
  read clock asked = record { at = 900 + clock; deed = Does (Reads w clock 1 asked) }

  abbrev pub stamp : LifeDone
  stamp = record { at = 901 + begins; deed = Stamps (record { worker = w; entry = entry w (910 + begins) }) }

  abbrev pub list : List LifeDone
  list = read passes None ∷ stamp ∷ read begins (Some commit) ∷ []

  module _ (late : 112 ≤ begins) (later : begins + 3 ≤ passes) (early : passes ≤ 1000) (gave : GaveStamp old new (910 + begins) 0 whole (910 + begins)) (own : new.own ≡ entry w (910 + begins) ∷ old.own)
      (says : PassesAt ClientSays begun 1 (Ok true) released (Ok (read_at passes))) where
    unfoldable pub allows_begin : Allows MachineGives failed ClientSays station of_begin begun
    allows_begin = record {
      lease = refl;
      stampers = refl;
      ahead = refl;
      max_width = refl;
      client = refl;
      own = refl;
      given = Ok (read_at begins);
      look = record { looked = Ok (read_at begins); looks = looks_at [] 0 begins (fused ∷ [], refl) (omega arith) (omega arith) (omega arith); admits = (false, tt, admitted begins) };
      rest = subst (λ (capped : Bool). MatchBool capped (◌≡◌ {A = Result ℕ ℕ} (Ok (910 + begins)) (Err (number_of FloorAboveCap)) × Keeps station begun) (CommitsAt station 1 0 (read_at begins) (Ok (910 + begins)) begun)) (sym (below_cap begins)) (
        Ok (910 + begins),
        stamps_whole 0 whole (read_at begins) old (Ok (910 + begins)) new (record { ordered = omega arith; in_time = omega arith }) (λ far. omega (arith, far), gave, omega arith, (omega arith, omega arith)),
        (Ok tt, queues_at (910 + begins), refl),
      );
    }

    pub allows_pass : Allows MachineGives failed ClientSays begun of_pass released
    allows_pass = record {
      lease = refl;
      stampers = refl;
      ahead = refl;
      max_width = refl;
      client = refl;
      own = refl;
      given = Ok (read_at passes);
      look = record { looked = Ok (read_at passes); looks = looks_at (fused ∷ []) begins passes ([], refl) (omega arith) (omega arith) early; admits = (false, tt, admitted passes) };
      rest = says;
    }

    pub talked : Conversation (Allows MachineGives failed ClientSays) station calls released
    talked = (begun, allows_begin, (released, allows_pass, refl))

    pub talks : Session (AllowsOn MachineGives failed ClientSays) 1 station (ended commit_line) released (flat_map text_of replies) served [] last
    talks = record {
      lines = commit_line ∷ [];
      calls = calls;
      replies = replies;
      splits = record { whole = refl; each = All-cons HasNoEnd commit_line [] no_end_commit (All-nil HasNoEnd); last = All-nil (λ (b : ℕ). b ≢ 10) };
      talked = talks-on MachineGives failed ClientSays calls station released talked;
      answered = (
        calls,
        [],
        last,
        refl,
        inr (
          omega arith,
          (
            Some (request.Commit 1 0),
            ((omega arith, omega arith), spells_commit),
            (Ok (910 + begins), (of_pass ∷ [], refl, record { answer = Ok true; passes = (0, omega arith, refl); says = refl; keeps = refl })),
          ),
        ),
        (refl, refl),
      );
      says = refl;
      lines_are = refl;
      refused_are = refl;
    }

    abbrev pub session : WorkerSession MachineGives failed ClientSays 1
    session = record {
      client = tt;
      before = station.post;
      after = released;
      bytes = ended commit_line;
      text = flat_map text_of replies;
      served = served;
      rest = [];
      last = last;
      session = talks;
    }

    abbrev pub worker : WorkerLife MachineGives failed ClientSays 1
    worker = record { post = station.post; last = released.post; sessions = session ∷ [] }

    pub between : AreServedBetween worker.post worker.last worker.sessions
    between =
        let Between : WorkerSession MachineGives failed ClientSays 1 → Type 0 = IsServedBetween worker.post worker.last in
        All-cons Between session [] (post-same worker.post worker.post refl, post-same worker.last worker.last refl) (All-nil Between)

    -- one turn, with which its session ended
    abbrev pub events : List (WorkerEvent MachineGives failed ClientSays 1)
    events = inr (record { place = 0; session = session }) ∷ inl (record { place = 0; before = station; calls = calls; after = released; talked = talked }) ∷ []

    pub none-goes_on : (place : ℕ) → calls_at place events ≡ []
    none-goes_on place = by_place (eqb place 0)
      where
        by_place : (b : Bool) → cond b [] (cond b ([] ++ calls) []) ≡ []
        by_place true = refl
        by_place false = refl

    pub leads : LeadFrom worker.post events worker.last
    unfolding talks
    leads = (released.post, (station.post, refl, (refl, refl)), (refl, refl))

    pub of-session : AreOfSessions events
    unfolding talks
    of-session = ((tt, refl), (refl, refl))

    abbrev pub by_turns : AreAllByTurns worker.post worker.sessions worker.last
    by_turns = record { events = events; lead = leads; of_sessions = of-session; sessions_are = refl; none_goes_on = none-goes_on }

    pub timed : AreTimed MachineGives failed ClientSays 1 100 (moments_in start (timeline_of 0)) 990 events (times ∷ []) max_time
    unfolding talked allows_begin allows_pass
    timed = (
      990,
      omega arith,
      (omega arith, omega arith, omega arith, omega arith, (omega arith, omega arith, omega arith, omega arith, omega arith)),
      (is_taken 0 begins (omega arith) late (omega arith), (is_taken begins passes (omega arith) (omega arith) early, tt)),
    )

    pub is_list : IsListOf w 100 (map fused_span_of (fused ∷ [])) MachineGives failed ClientSays 1 events (times ∷ []) list
    unfolding talked allows_begin allows_pass
    is_list = (
      [],
      refl,
      (
        stamp ∷ read begins (Some commit) ∷ [],
        record { reads = read begins (Some commit) ∷ []; stamps = stamp ∷ []; now_is = refl; read = (begins, Some commit, refl, reads_at begins late (omega arith)); stamped = (entry w (910 + begins), refl, own) },
        (list, record { reads = read passes None ∷ []; stamps = []; now_is = refl; read = (passes, None, refl, reads_at passes (omega arith) early); stamped = refl }, refl),
      ),
    )

    -- each reading is of the publication, and the stamp is for the commit that waits, by its reading
    pub no_earlier : (clock : ℕ) → 112 ≤ clock → IsNoEarlier (moments_in start (timeline_of 0)) (fused_span_of fused) (900 + clock)
    no_earlier clock after made among = among-by (900 + clock) 111 made (moments_in start (timeline_of 0)) (omega arith, (omega arith, (omega arith, (omega arith, tt)))) among

    pub are_own : w < 2 → AreOwn one (moments_in start (timeline_of 0)) (map fused_span_of (fused ∷ [])) list
    are_own within = (
      (within, omega arith, omega arith, omega arith, omega (arith, seen-here w begins 1 (Some commit) 0), no_earlier passes (omega arith)),
      (
        (within, (record { clock = begins; publication = 1; arrival = commit }, begun-here w begins 1 commit None, ap (λ (i : Interval). i.hi) (reads_at begins late (omega arith)), refl)),
        ((within, omega arith, omega arith, omega arith, omega arith, no_earlier begins late), tt),
      ),
    )

    pub in_order : AreInOrder max_time list
    in_order = (omega arith, (omega arith, (omega arith, tt)))

    pub are_since : AreSince 990 list
    are_since = (omega arith, (omega arith, (omega arith, tt)))

    pub shows : AllByRecursion Shows list
    shows = (λ shown by. (omega arith, omega arith), (λ shown by. (omega arith, omega arith), (λ shown by. (omega arith, omega arith), tt)))

-- ---- both workers

pub late_0 : 112 ≤ 120
late_0 = omega arith

pub later_0 : 123 ≤ 150
later_0 = omega arith

pub early_0 : 150 ≤ 1000
early_0 = omega arith

pub late_1 : 112 ≤ 140
late_1 = omega arith

pub later_1 : 143 ≤ 200
later_1 = omega arith

pub early_1 : 200 ≤ 1000
early_1 = omega arith

pub says_0 : PassesAt ClientSays (begun 0 (seat_of 0) seat_0 120 150) 1 (Ok true) (released 0 (seat_of 0) seat_0 120 150) (Ok (read_at 150))
says_0 = (refl, refl, (refl, omega arith))

pub says_1 : PassesAt ClientSays (begun 1 (seat_of 1) seat_1 140 200) 1 (Ok true) (released 1 (seat_of 1) seat_1 140 200) (Ok (read_at 200))
says_1 = (refl, refl, (refl, omega arith))

abbrev pub worker_0 : WorkerLife MachineGives failed ClientSays 1
worker_0 = worker 0 (seat_of 0) seat_0 120 150 late_0 later_0 early_0 gave_0 refl says_0

abbrev pub worker_1 : WorkerLife MachineGives failed ClientSays 1
worker_1 = worker 1 (seat_of 1) seat_1 140 200 late_1 later_1 early_1 gave_1 refl says_1

abbrev pub life : Life MachineGives failed ClientSays 1
life = record {
  config = one;
  number = 0;
  epoch = 1;
  lease = whole;
  stampers = None;
  ahead = 0;
  max_width = 1000;
  calls = call_of 0 ∷ [];
  source = unseen.source;
  published = fused ∷ [];
  workers = worker_0 ∷ worker_1 ∷ [];
}

abbrev pub timeline : List Timed
timeline = timeline_of 0

pub works_0 : WorksIn life worker_0
works_0 = record { watch = refl; lease = refl; stampers = refl; ahead = refl; width = refl; in_turn = between 0 (seat_of 0) seat_0 120 150 late_0 later_0 early_0 gave_0 refl says_0; seen = ([], refl) }

pub works_1 : WorksIn life worker_1
works_1 = record { watch = refl; lease = refl; stampers = refl; ahead = refl; width = refl; in_turn = between 1 (seat_of 1) seat_1 140 200 late_1 later_1 early_1 gave_1 refl says_1; seen = ([], refl) }

pub is_life : IsLife life
is_life = record {
  configured = is_running-0.configured;
  first = omega arith;
  last = omega arith;
  in_turn = is_running-0.in_turn;
  rising = (111, (0, 111, omega arith, (omega arith, (omega arith, (omega arith, refl))), omega arith));
  published = sym published-0;
  workers = All-cons (WorksIn life) worker_0 (worker_1 ∷ []) works_0 (All-cons (WorksIn life) worker_1 [] works_1 (All-nil (WorksIn life)));
}

pub is_told : IsToldOf life start timeline
is_told = record {
  lives = is_assumed.lives;
  at = is_assumed.at;
  clock = is_assumed.clock;
  told = is_assumed.told;
  of_time = is_assumed.of_time;
  times = is_assumed.times;
  begins = is_assumed.begins;
  readings = is_assumed.readings;
  nonces = is_assumed.nonces;
}

abbrev pub shared : ShareOneSequencer life.workers
shared = record { table = seat.table; history = both; legal = legal_both; each = (record { seat_is = refl; begins = (entry 1 1050 ∷ [], refl); own = refl }, (record { seat_is = refl; begins = ([], refl); own = refl }, tt)) }

abbrev pub turns_0 : TurnsOf MachineGives failed ClientSays 1 life start timeline worker_0
turns_0 = record {
  by_turns = by_turns 0 (seat_of 0) seat_0 120 150 late_0 later_0 early_0 gave_0 refl says_0;
  times = times 0 (seat_of 0) seat_0 120 150 ∷ [];
  timed = timed 0 (seat_of 0) seat_0 120 150 late_0 later_0 early_0 gave_0 refl says_0;
}

abbrev pub turns_1 : TurnsOf MachineGives failed ClientSays 1 life start timeline worker_1
turns_1 = record {
  by_turns = by_turns 1 (seat_of 1) seat_1 140 200 late_1 later_1 early_1 gave_1 refl says_1;
  times = times 1 (seat_of 1) seat_1 140 200 ∷ [];
  timed = timed 1 (seat_of 1) seat_1 140 200 late_1 later_1 early_1 gave_1 refl says_1;
}

abbrev pub turns : AllTurnsOf MachineGives failed ClientSays 1 life start timeline life.workers
turns = (turns_0, (turns_1, tt))

-- ---- its list

abbrev pub list_0 : List LifeDone
list_0 = list 0 (seat_of 0) seat_0 120 150

abbrev pub list_1 : List LifeDone
list_1 = list 1 (seat_of 1) seat_1 140 200

abbrev pub log : List LifeDone
log = stamp 1 (seat_of 1) seat_1 140 200 ∷ stamp 0 (seat_of 0) seat_0 120 150 ∷ []

pub own : AreOfWorkers one (moments_in start timeline) (map fused_span_of life.published) 0 (list_0 ∷ list_1 ∷ [])
own = (
  (refl, (refl, (refl, tt))),
  are_own 0 (seat_of 0) seat_0 120 150 late_0 later_0 early_0 gave_0 refl says_0 (omega arith),
  ((refl, (refl, (refl, tt))), are_own 1 (seat_of 1) seat_1 140 200 late_1 later_1 early_1 gave_1 refl says_1 (omega arith), tt),
)

pub merge : IsMergeOf (map stamps_in (list_0 ∷ list_1 ∷ [])) log
merge =
    let newest : LifeDone = stamp 1 (seat_of 1) seat_1 140 200 in
    (newest ∷ [], ([], refl, inl ([], refl, (refl, refl))), inr ([], refl, inl ([], refl, (refl, refl))))

pub log-in_order : AreInOrder max_time log
log-in_order = (omega arith, (omega arith, tt))

pub there-0 : 0 < 1
there-0 = omega arith

pub begins-0 : BeginsLife (one ∷ []) 0 1 990 90 []
begins-0 = begins-life (one ∷ []) 0 990 90 0 (omega arith) (omega arith) (omega arith) (omega arith)

pub unworked-0 : IsUnworked one [] (life_at [] 0)
unworked-0 = restarts-unworked one 0 990 90 0 (life_at [] 0)

pub are-since : AllByRecursion (AreSince 990) (list_0 ∷ list_1 ∷ [])
are-since = (are_since 0 (seat_of 0) seat_0 120 150 late_0 later_0 early_0 gave_0 refl says_0, (are_since 1 (seat_of 1) seat_1 140 200 late_1 later_1 early_1 gave_1 refl says_1, tt))

pub are-in_order : AllByRecursion (AreInOrder max_time) (list_0 ∷ list_1 ∷ [])
are-in_order = (in_order 0 (seat_of 0) seat_0 120 150 late_0 later_0 early_0 gave_0 refl says_0, (in_order 1 (seat_of 1) seat_1 140 200 late_1 later_1 early_1 gave_1 refl says_1, tt))

pub are-shown : AllByRecursion (AllByRecursion Shows) (list_0 ∷ list_1 ∷ [])
are-shown = (shows 0 (seat_of 0) seat_0 120 150 late_0 later_0 early_0 gave_0 refl says_0, (shows 1 (seat_of 1) seat_1 140 200 late_1 later_1 early_1 gave_1 refl says_1, tt))

abbrev pub has : HasOneList (one ∷ []) [] MachineGives failed ClientSays 1 life start timeline turns both
has = record {
  lists = list_0 ∷ list_1 ∷ [];
  log = log;
  are_lists = (is_list 0 (seat_of 0) seat_0 120 150 late_0 later_0 early_0 gave_0 refl says_0, (is_list 1 (seat_of 1) seat_1 140 200 late_1 later_1 early_1 gave_1 refl says_1, refl));
  own = own;
  merge = merge;
  log_is = refl;
  one_list = cut-one MachineGives failed ClientSays 1 (whole_cut MachineGives failed ClientSays 1 life start timeline) is_life [] refl is_told (one ∷ []) [] there-0 refl begins-0 unworked-0 2 both legal_both
      (map fused_span_of life.published) is_life.published (list_0 ∷ list_1 ∷ []) log own are-since are-in_order
      merge refl;
}

-- in any one list of these threads the clock shows 900 less than the true time
daemon-shows : AllByRecursion Shows (daemon_list timeline)
daemon-shows = (λ shown by. (omega arith, omega arith), (λ shown by. (omega arith, omega arith), (λ shown by. (omega arith, omega arith), (λ shown by. (omega arith, omega arith), tt))))

daemon-since : AreSince 990 (daemon_list timeline)
daemon-since = (omega arith, (omega arith, (omega arith, (omega arith, tt))))

module _ (first second log all : List LifeDone) (is : IsOneListWith max_time (daemon_list timeline) (first ∷ second ∷ []) log all) where
  merged : IsMerge (daemon_list timeline) is.of_workers all
  merged = before-merge (daemon_list timeline) is.of_workers all is.merge

  of-all : (P : LifeDone → Type 0) → AllByRecursion P (daemon_list timeline) → AllByRecursion (AllByRecursion P) (first ∷ second ∷ []) → AllByRecursion P all
  of-all P daemon each = all-merge P (daemon_list timeline) is.of_workers all merged daemon (all-workers P (first ∷ second ∷ []) is.of_workers is.workers_are each)

  pub all-rises : AllByRecursion (AreSince 990) (first ∷ second ∷ []) → AllByRecursion (AllByRecursion Shows) (first ∷ second ∷ []) → ClockRises 90 all
  all-rises since shown = (rises all max_time is.in_order (of-all (λ (done : LifeDone). 990 ≤ done.at) daemon-since since) (of-all Shows daemon-shows shown)).0

  pub all-few : length first ≤ 3 → length second ≤ 3 → length all < 2 ^ 64
  all-few few few_too =
      let (others, (none, none_is, second_is), first_is) = is.workers_are in
      let four : length (daemon_list timeline) ≡ 4 = refl in
      omega (arith, few, few_too, merge-size (daemon_list timeline) is.of_workers all merged, merge-size first others is.of_workers first_is, merge-size second none others second_is, ap length none_is)

pub is_worked : IsWorkedList (one ∷ []) [] MachineGives failed ClientSays 1 life start timeline turns shared
is_worked = record {
  proved = is_life;
  assumed = is_told;
  there = there-0;
  configured = refl;
  fits = omega arith;
  begins = begins-0;
  unworked = unworked-0;
  workers = refl;
  published = refl;
  stamps = refl;
  has = has;
  log_in_order = log-in_order;
  rises = all-rises list_0 list_1 log (has.one_list log-in_order).0 (has.one_list log-in_order).1 are-since are-shown;
  few = all-few list_0 list_1 log (has.one_list log-in_order).0 (has.one_list log-in_order).1 (omega arith) (omega arith);
}
