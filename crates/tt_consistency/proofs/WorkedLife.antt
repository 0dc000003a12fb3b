-- A worked life with the clock that the service runs on, for which every premise of the law of lives holds: its daemon publishes once, and its worker serves two sessions by turns. The first call of one comes too early and gives no reading; then it begins a commit, the other session is served, and the commit is released; and it is given no reading any more once the clock has left its drift bound and the machine knows of it.
use Rattle.std.proofs.Common.{◌≡◌, ◌≢◌, ℕ, ◌+◌, ◌≤◌, List, [], ◌∷◌, ◌++◌, Bool, true, false, Option, Some, None, Result, Ok, Err, inr, refl, sym, ap, ◌∙◌, subst, arith, All}
use Rattle.std.specs.Fmt.{decimal}
use Rattle.std.specs.List.{AllByRecursion, flat_map}
use Rattle.std.specs.Prelude.{MatchBool}
use Rattle.std.proofs.lemmas.Fmt.{decimal_digit}
use Rattle.std.proofs.lemmas.List.Elements.{All-nil, All-cons}
use mathlib.Core.List.{IsPrefix}
use Rattle.tt_span.specs.Interval.{whole}
use Rattle.tt_daemon.specs.Publication.{Publication}
use Rattle.tt_publish.specs.Known.{WatchState}
use Rattle.tt_publish.specs.Looks.{Looks}
use Rattle.tt_publish.specs.Reading.{reading_at, fused_span_of}
use Rattle.tt_publish.specs.declared.faults.ReadFault.TheVariants.{Nothing}
use Rattle.tt_session.specs.Conversation.{Conversation}
use Rattle.tt_session.specs.Lines.{HasNoEnd, ended}
use Rattle.tt_session.specs.Replies.{text_of}
use Rattle.tt_session.specs.Requests.{commit_word, now_word, spelling_of}
use Rattle.tt_session.specs.Session.{Session}
use Rattle.tt_session.specs.declared.begun.Begun.{Begun}
use Rattle.tt_session.specs.declared.calls.Call.{Call}
use Rattle.tt_session.specs.declared.calls.Call.TheVariants as call
use Rattle.tt_session.specs.declared.replies.LineReply.{LineReply}
use Rattle.tt_session.specs.declared.replies.LineReply.TheVariants as reply
use Rattle.tt_session.specs.declared.requests.Request.TheVariants as request
use Rattle.tt_session.specs.declared.serving.Served.{Served}
use Rattle.tt_stamp.specs.declared.commits.Entry.TheVariants.{Queued, Passed}
use Rattle.tt_stamp.proofs.Ids.{Contains-here, Contains-there}
use Rattle.tt_connections.specs.Fault.{number_of}
use Rattle.tt_connections.specs.Sessions.{WorkerSession, AreServedBetween, IsServedBetween}
use Rattle.tt_connections.specs.Station.{PostState, StationState, Allows, CommitsAt, Keeps, id_at, new_station}
use Rattle.tt_connections.specs.Turns.{AllowsOn}
use Rattle.tt_connections.specs.declared.faults.StationFault.TheVariants.{FloorAboveCap}
use Rattle.tt_connections.proofs.Leasing.{stamps_whole}
use Rattle.tt_connections.proofs.Turning.{post-same, post-both, call-goes_on, allows-on}
use Rattle.tt_clock.specs.Clock.{ClockState, MachineGives}
use Rattle.tt_connections.specs.Client.{ClientSays}
use Rattle.tt_consistency.specs.Order.{IsSeen}
use Rattle.tt_consistency.specs.Timed.{CallTimes, timed_of}
use Rattle.tt_consistency.specs.Reads.{IsTakenAt}
use Rattle.tt_consistency.specs.Assumed.{AllReadAt, IsAssumed, IsLived, IsSeenInOneOf, IsServedIn, IsTimedIn, TimedLife, moments_in}
use Rattle.tt_consistency.specs.Lives.{Life, WorkerLife, WorksIn, IsLife}
use Rattle.tt_consistency.specs.Running.{clock_moments}
use Rattle.tt_consistency.proofs.WorkedOrder.{fused, seat, seat_after, gives_at, queues_at, below_cap, receipt, read_at, reads_at, admitted, keeps, among-by, call_at, first}
use Rattle.tt_consistency.proofs.WorkedRun.{one, start, timeline_of, call_of, machine, is_running-0, published-0}

-- the clock of a machine fails as often as it has counted
abbrev pub failed : ClockState → ℕ
failed clock = clock.failures

-- ---- the worker: its watch has seen nothing, and then what the daemon published
abbrev pub unseen : WatchState
unseen = record { source = record { book = record { number = 0; log_name = 0; cells_name = 0 }; chain = 0 }; drift = 100; items = [] }

abbrev pub seen : WatchState
seen = record unseen { items = fused ∷ [] }

abbrev pub clock_at : ℕ → ClockState
clock_at last = record { last = last; failures = 0 }

abbrev pub post : WatchState → ClockState → PostState ClockState
post watch clock = record { watch = watch; clock = clock; seat = seat; lease = whole; stampers = None; ahead = 0; max_width = 1000 }

abbrev station : WatchState → ClockState → StationState ClockState (Unit {0})
station watch clock = new_station (post watch clock) tt

-- ---- its calls: the first comes before there is anything to read, and the clock is not read
looks_early : Looks MachineGives failed unseen (clock_at 0) (Err Nothing) unseen (clock_at 0)
looks_early = record {
  same = (refl, refl);
  seen = ([], refl);
  reading = tt;
  nothing = (λ is. refl, λ is. refl);
  unread = λ is. refl;
  clock_failed = λ is. absurd cc;
  clock_back = λ is. absurd cc;
  sound = λ not_failed. refl;
}

pub allows_early : Allows MachineGives failed ClientSays (station unseen (clock_at 0)) (call.Now (Err 801)) (station unseen (clock_at 0))
allows_early = record { lease = refl; stampers = refl; ahead = refl; max_width = refl; client = refl; own = refl; given = Err 801; look = record { looked = Err Nothing; looks = looks_early; admits = refl }; rest = (refl, record { seat = refl; book = refl }) }

-- the others read what the daemon has published by then
pub looks_at : (items : List Publication) (last clock : ℕ) → IsPrefix items (fused ∷ []) → last ≤ clock → 112 ≤ clock → clock ≤ 1000 → Looks MachineGives failed (record unseen { items = items }) (clock_at last) (Ok (read_at clock)) seen (clock_at clock)
looks_at items last clock begins rises late early = record {
  same = (refl, refl);
  seen = begins;
  reading = (fused, clock, refl, (rises, refl), (omega arith, omega arith), reads_at clock late early);
  nothing = (λ is. absurd cc, λ is. absurd cc);
  unread = λ is. absurd cc;
  clock_failed = λ is. absurd cc;
  clock_back = λ is. absurd cc;
  sound = λ not_failed. refl;
}

-- the post after a commit
abbrev stamped : ClockState → PostState ClockState
stamped clock = record (post seen clock) { seat = seat_after 1030 }

-- a commit begins when the clock shows 120
abbrev begun : StationState ClockState (Unit {0})
begun = record { post = stamped (clock_at 120); client = tt; lease = whole; book = Queued (id_at 1) 1030 ∷ [] }

pub allows_begin : Allows MachineGives failed ClientSays (station unseen (clock_at 0)) (call.Begin 1 0 (Ok 1030)) begun
allows_begin = record {
  lease = refl;
  stampers = refl;
  ahead = refl;
  max_width = refl;
  client = refl;
  own = refl;
  given = Ok (read_at 120);
  look = record { looked = Ok (read_at 120); looks = looks_at [] 0 120 (fused ∷ [], refl) (omega arith) (omega arith) (omega arith); admits = (false, tt, admitted 120) };
  rest = subst (λ (capped : Bool). MatchBool capped (◌≡◌ {A = Result ℕ ℕ} (Ok 1030) (Err (number_of FloorAboveCap)) × Keeps (station unseen (clock_at 0)) begun) (CommitsAt (station unseen (clock_at 0)) 1 0 (read_at 120) (Ok 1030) begun)) (sym (below_cap 120)) (
    Ok 1030,
    stamps_whole 0 whole (read_at 120) seat (Ok 1030) (seat_after 1030) (record { ordered = omega arith; in_time = omega arith }) (λ far. omega (arith, far), gives_at 1030 (omega arith), omega arith, (omega arith, omega arith)),
    (Ok tt, queues_at 1030, refl),
  );
}

-- then the other session asks what time it is, when the clock shows 130
abbrev other_station : ℕ → StationState ClockState (Unit {0})
other_station last = new_station (stamped (clock_at last)) tt

allows_now : Allows MachineGives failed ClientSays (other_station 120) (call.Now (Ok (read_at 130))) (other_station 130)
allows_now = record {
  lease = refl;
  stampers = refl;
  ahead = refl;
  max_width = refl;
  client = refl;
  own = refl;
  given = Ok (read_at 130);
  look = record { looked = Ok (read_at 130); looks = looks_at (fused ∷ []) 120 130 ([], refl) (omega arith) (omega arith) (omega arith); admits = (false, tt, admitted 130) };
  rest = (refl, record { seat = refl; book = refl });
}

-- and the commit is released when it shows 150
abbrev resumed : StationState ClockState (Unit {0})
resumed = record begun { post = stamped (clock_at 130) }

abbrev pub released : StationState ClockState (Unit {0})
released = record begun { post = stamped (clock_at 150); book = Passed (receipt 1030 1038) ∷ Queued (id_at 1) 1030 ∷ [] }

pub allows_pass : Allows MachineGives failed ClientSays resumed (call.Pass 1 (Ok true)) released
allows_pass = record { lease = refl; stampers = refl; ahead = refl; max_width = refl; client = refl; own = refl; given = Ok (read_at 150); look = record { looked = Ok (read_at 150); looks = looks_at (fused ∷ []) 130 150 ([], refl) (omega arith) (omega arith) (omega arith); admits = (false, tt, admitted 150) }; rest = (refl, refl, (refl, omega arith)) }

passes_on : AllowsOn MachineGives failed ClientSays begun (call.Pass 1 (Ok true)) released
passes_on = record {
  post = resumed.post;
  goes = call-goes_on MachineGives failed ClientSays (other_station 120) (call.Now (Ok (read_at 130))) (other_station 130) allows_now;
  allowed = allows_pass;
}

-- then the clock jumps to 500000, and the machine knows that it is broken: the next reading is not given
abbrev jumped : StationState ClockState (Unit {0})
jumped = record released { post = stamped (clock_at 500000) }

looks_broken : Looks MachineGives failed seen (clock_at 150) (Ok (reading_at 100 (fused_span_of fused) 500000)) seen (clock_at 500000)
looks_broken = record {
  same = (refl, refl);
  seen = ([], refl);
  reading = (fused, 500000, refl, (omega arith, refl), (omega arith, omega arith), refl);
  nothing = (λ is. absurd cc, λ is. absurd cc);
  unread = λ is. absurd cc;
  clock_failed = λ is. absurd cc;
  clock_back = λ is. absurd cc;
  sound = λ not_failed. refl;
}

pub allows_broken : Allows MachineGives failed ClientSays released (call.Now (Err 1823)) jumped
allows_broken = record {
  lease = refl;
  stampers = refl;
  ahead = refl;
  max_width = refl;
  client = refl;
  own = refl;
  given = Err 1823;
  look = record { looked = Ok (reading_at 100 (fused_span_of fused) 500000); looks = looks_broken; admits = (true, tt, refl) };
  rest = (refl, record { seat = refl; book = refl });
}

-- its last call, and the calls before it
pub late_talked : Conversation (AllowsOn MachineGives failed ClientSays) released (call.Now (Err 1823) ∷ []) jumped
late_talked = (jumped, allows-on MachineGives failed ClientSays released (call.Now (Err 1823)) jumped allows_broken, refl)

abbrev pub early_calls : List Call
early_calls = call.Now (Err 801) ∷ call.Begin 1 0 (Ok 1030) ∷ call.Pass 1 (Ok true) ∷ []

pub early_talked : Conversation (AllowsOn MachineGives failed ClientSays) (station unseen (clock_at 0)) early_calls released
early_talked = (
  station unseen (clock_at 0),
  allows-on MachineGives failed ClientSays (station unseen (clock_at 0)) (call.Now (Err 801)) (station unseen (clock_at 0)) allows_early,
  (begun, allows-on MachineGives failed ClientSays (station unseen (clock_at 0)) (call.Begin 1 0 (Ok 1030)) begun allows_begin, (released, passes_on, refl)),
)

-- ---- its session, of three lines
abbrev calls : List Call
calls = call.Now (Err 801) ∷ call.Begin 1 0 (Ok 1030) ∷ call.Pass 1 (Ok true) ∷ call.Now (Err 1823) ∷ []

abbrev replies : List LineReply
replies = reply.Refused 801 ∷ reply.Committed 1 1030 ∷ reply.Refused 1823 ∷ []

abbrev served : Served
served = record { lines = 3; refused = 2 }

-- the line that asks for commit 1, with no floor
abbrev pub commit_line : List ℕ
commit_line = commit_word ++ 32 ∷ 49 ∷ 32 ∷ 48 ∷ []

pub spells_commit : ended commit_line ≡ spelling_of (request.Commit 1 0)
spells_commit =
    let line : List ℕ → List ℕ → List ℕ = λ number floor. commit_word ++ ((32 ∷ number) ++ ((32 ∷ floor) ++ [])) ++ 10 ∷ [] in
    sym (ap (λ (number : List ℕ). line number (decimal 0)) (decimal_digit 1 (omega arith)) ∙ ap (λ (floor : List ℕ). line (49 ∷ []) floor) (decimal_digit 0 (omega arith)))

-- no byte of a line is a line feed
abbrev IsNoEnd : ℕ → Type 0
IsNoEnd b = b ≢ 10

no_end : (line : List ℕ) → AllByRecursion IsNoEnd line → HasNoEnd line
no_end [] all = All-nil IsNoEnd
no_end (b ∷ line) all = All-cons IsNoEnd b line all.0 (no_end line all.1)

no_end_now : HasNoEnd now_word
no_end_now = no_end now_word (λ is. absurd (omega (arith, is)), (λ is. absurd (omega (arith, is)), (λ is. absurd (omega (arith, is)), tt)))

pub no_end_commit : HasNoEnd commit_line
no_end_commit = no_end commit_line (λ is. absurd (omega (arith, is)), (λ is. absurd (omega (arith, is)), (λ is. absurd (omega (arith, is)), (λ is. absurd (omega (arith, is)), (λ is. absurd (omega (arith, is)), (λ is. absurd (omega (arith, is)), (λ is. absurd (omega (arith, is)), (λ is. absurd (omega (arith, is)), (λ is. absurd (omega (arith, is)), (λ is. absurd (omega (arith, is)), tt))))))))))

abbrev bytes : List ℕ
bytes = ended now_word ++ ended commit_line ++ ended now_word

abbrev last : Option Begun
last = Some (record { number = 1; stamp = 1030; is_released = true })

pub talks : Session (AllowsOn MachineGives failed ClientSays) 1 (station unseen (clock_at 0)) bytes jumped (flat_map text_of replies) served [] last
talks = record {
  lines = now_word ∷ commit_line ∷ now_word ∷ [];
  calls = calls;
  replies = replies;
  splits = record { whole = refl; each = All-cons HasNoEnd now_word (commit_line ∷ now_word ∷ []) no_end_now (All-cons HasNoEnd commit_line (now_word ∷ []) no_end_commit (All-cons HasNoEnd now_word [] no_end_now (All-nil HasNoEnd))); last = All-nil IsNoEnd };
  talked = (
    station unseen (clock_at 0),
    allows-on MachineGives failed ClientSays (station unseen (clock_at 0)) (call.Now (Err 801)) (station unseen (clock_at 0)) allows_early,
    (begun, allows-on MachineGives failed ClientSays (station unseen (clock_at 0)) (call.Begin 1 0 (Ok 1030)) begun allows_begin, (released, passes_on, late_talked)),
  );
  answered = (
    call.Now (Err 801) ∷ [],
    call.Begin 1 0 (Ok 1030) ∷ call.Pass 1 (Ok true) ∷ call.Now (Err 1823) ∷ [],
    None,
    refl,
    inr (omega arith, (Some request.Now, (tt, refl), record { answer = Err 801; called = refl; says = refl; same = refl })),
    (
      call.Begin 1 0 (Ok 1030) ∷ call.Pass 1 (Ok true) ∷ [],
      call.Now (Err 1823) ∷ [],
      Some (record { number = 1; stamp = 1030; is_released = true }),
      refl,
      inr (
        omega arith,
        (
          Some (request.Commit 1 0),
          ((omega arith, omega arith), spells_commit),
          (Ok 1030, (call.Pass 1 (Ok true) ∷ [], refl, record { answer = Ok true; passes = (0, omega arith, refl); says = refl; keeps = refl })),
        ),
      ),
      (
        call.Now (Err 1823) ∷ [],
        [],
        Some (record { number = 1; stamp = 1030; is_released = true }),
        refl,
        inr (omega arith, (Some request.Now, (tt, refl), record { answer = Err 1823; called = refl; says = refl; same = refl })),
        (refl, refl),
      ),
    ),
  );
  says = refl;
  lines_are = refl;
  refused_are = refl;
}

abbrev pub session : WorkerSession MachineGives failed ClientSays 1
session = record {
  client = tt;
  before = post unseen (clock_at 0);
  after = jumped;
  bytes = bytes;
  text = flat_map text_of replies;
  served = served;
  rest = [];
  last = last;
  session = talks;
}

-- ---- the other session, of one line
abbrev other_replies : List LineReply
other_replies = reply.Now (read_at 130) ∷ []

pub other_talks : Session (AllowsOn MachineGives failed ClientSays) 1 (other_station 120) (ended now_word) (other_station 130) (flat_map text_of other_replies) (record { lines = 1; refused = 0 }) [] None
other_talks = record {
  lines = now_word ∷ [];
  calls = call.Now (Ok (read_at 130)) ∷ [];
  replies = other_replies;
  splits = record { whole = refl; each = All-cons HasNoEnd now_word [] no_end_now (All-nil HasNoEnd); last = All-nil IsNoEnd };
  talked = (other_station 130, allows-on MachineGives failed ClientSays (other_station 120) (call.Now (Ok (read_at 130))) (other_station 130) allows_now, refl);
  answered = (
    call.Now (Ok (read_at 130)) ∷ [],
    [],
    None,
    refl,
    inr (omega arith, (Some request.Now, (tt, refl), record { answer = Ok (read_at 130); called = refl; says = refl; same = refl })),
    (refl, refl),
  );
  says = refl;
  lines_are = refl;
  refused_are = refl;
}

abbrev pub other : WorkerSession MachineGives failed ClientSays 1
other = record {
  client = tt;
  before = stamped (clock_at 120);
  after = other_station 130;
  bytes = ended now_word;
  text = flat_map text_of other_replies;
  served = record { lines = 1; refused = 0 };
  rest = [];
  last = None;
  session = other_talks;
}

-- ---- the worker has served both
abbrev pub worker : WorkerLife MachineGives failed ClientSays 1
worker = record { post = post unseen (clock_at 0); last = jumped.post; sessions = session ∷ other ∷ [] }

session_between : IsServedBetween worker.post worker.last session
session_between = (post-same worker.post worker.post refl, post-same worker.last worker.last refl)

other_between : IsServedBetween worker.post worker.last other
other_between = (
  call-goes_on MachineGives failed ClientSays (station unseen (clock_at 0)) (call.Begin 1 0 (Ok 1030)) begun allows_begin,
  post-both resumed.post released.post jumped.post
      (call-goes_on MachineGives failed ClientSays resumed (call.Pass 1 (Ok true)) released allows_pass)
      (call-goes_on MachineGives failed ClientSays released (call.Now (Err 1823)) jumped allows_broken),
)

-- ---- the life: in its first epoch its daemon makes the one call of the worked machine
abbrev life : Life MachineGives failed ClientSays 1
life = record {
  config = one;
  number = 0;
  epoch = 1;
  lease = whole;
  stampers = None;
  ahead = 0;
  max_width = 1000;
  calls = call_of 0 ∷ [];
  source = unseen.source;
  published = fused ∷ [];
  workers = worker ∷ [];
}

pub sessions_between : AreServedBetween worker.post worker.last worker.sessions
sessions_between =
    let Between : WorkerSession MachineGives failed ClientSays 1 → Type 0 = IsServedBetween worker.post worker.last in
    All-cons Between session (other ∷ []) session_between (All-cons Between other [] other_between (All-nil Between))

works_in : WorksIn life worker
works_in = record { watch = refl; lease = refl; stampers = refl; ahead = refl; width = refl; in_turn = sessions_between; seen = ([], refl) }

is_life : IsLife life
is_life = record {
  configured = is_running-0.configured;
  first = omega arith;
  last = omega arith;
  in_turn = is_running-0.in_turn;
  rising = (111, (0, 111, omega arith, (omega arith, (omega arith, (omega arith, refl))), omega arith));
  published = sym published-0;
  workers = All-cons (WorksIn life) worker [] works_in (All-nil (WorksIn life));
}

pub is_assumed : IsAssumed life start (timeline_of 0)
is_assumed = record {
  lives = refl;
  at = is_running-0.at;
  clock = is_running-0.clock;
  told = is_running-0.told;
  of_time = is_running-0.of_time;
  times = (omega arith, omega arith, (omega arith, omega arith, (omega arith, omega arith, (omega arith, omega arith, tt))));
  begins = omega arith;
  readings = (omega arith, (omega arith, (omega arith, tt)));
  nonces = is_running-0.nonces;
  drift = is_running-0.drift;
  few_faulty = is_running-0.few_faulty;
}

-- the first call comes before anything is published, the commit when the clock shows 120 and 150, and the last call when it has jumped
abbrev times : List CallTimes
times = record { came = 1000; read = 1001; answered = 1002 } ∷ call_at 120 ∷ call_at 150 ∷ record { came = 1060; read = 1061; answered = 1062 } ∷ []

pub is_taken : (last clock : ℕ) → last ≤ clock → 112 ≤ clock → clock ≤ 1000 → IsTakenAt MachineGives 100 (moments_in start (timeline_of 0)) seen (clock_at last) (clock_at clock) (read_at clock) (900 + clock)
is_taken last clock rises late early = record {
  last = fused;
  clock = clock;
  last_is = refl;
  gave = (rises, refl);
  can = (omega arith, omega arith);
  reading_is = reads_at clock late early;
  drift = keeps 0 clock late;
  in_time = omega arith;
  no_earlier = λ made among. among-by (900 + clock) 111 made (clock_moments (machine 0)) (omega arith, (omega arith, (omega arith, (omega arith, tt)))) among;
}

is_timed : IsTimedIn life start (timeline_of 0) session times
unfolding talks late_talked passes_on allows_early allows_begin allows_pass allows_broken
is_timed = record {
  in_order = (omega arith, omega arith, omega arith, (omega arith, omega arith, omega arith, (omega arith, omega arith, omega arith, (omega arith, omega arith, omega arith, tt))));
  read = (tt, (is_taken 0 120 (omega arith) (omega arith) (omega arith), (is_taken 130 150 (omega arith) (omega arith) (omega arith), (tt, refl))));
}

pub is_other_timed : IsTimedIn life start (timeline_of 0) other (call_at 130 ∷ [])
unfolding other_talks allows_now
is_other_timed = record {
  in_order = (omega arith, omega arith, omega arith, tt);
  read = (is_taken 120 130 (omega arith) (omega arith) (omega arith), refl);
}

-- ---- up to the answer that the commit is released
abbrev pub early_times : List CallTimes
early_times = record { came = 1000; read = 1001; answered = 1002 } ∷ call_at 120 ∷ call_at 150 ∷ []

pub early_read : AllReadAt MachineGives failed ClientSays 100 (moments_in start (timeline_of 0)) (station unseen (clock_at 0)) early_calls released early_talked early_times
unfolding early_talked passes_on allows_early allows_begin allows_pass
early_read = (tt, (is_taken 0 120 (omega arith) (omega arith) (omega arith), (is_taken 130 150 (omega arith) (omega arith) (omega arith), refl)))

pub session_calls : session.session.calls ≡ early_calls ++ call.Now (Err 1823) ∷ []
unfolding talks
session_calls = refl

pub other_calls : other.session.calls ≡ call.Now (Ok (read_at 130)) ∷ []
unfolding other_talks
other_calls = refl

-- ---- so all premises of the law hold, and the commit was seen at a session of the life
abbrev lived : TimedLife MachineGives failed ClientSays 1
lived = record { life = life; start = start; timeline = timeline_of 0 }

pub is_lived : IsLived lived
is_lived = record { proved = is_life; assumed = is_assumed }

is_seen : IsSeen (timed_of session times).calls times first
unfolding talks
is_seen = record { number = 1; begun = 1; released = 2; committed = record { begins = (0, refl); releases = refl; later = omega arith }; began = omega arith; ended = omega arith }

pub other_served : IsServedIn lived other (call_at 130 ∷ [])
other_served = record { worker = worker; of_life = Contains-here worker []; of_worker = Contains-there session (other ∷ []) other (Contains-here other []); timed = is_other_timed }

all_lived : All IsLived (lived ∷ [])
all_lived = All-cons IsLived lived [] is_lived (All-nil IsLived)

pub all_seen : All (IsSeenInOneOf (lived ∷ [])) (first ∷ [])
all_seen =
    All-cons (IsSeenInOneOf (lived ∷ [])) first [] (record {
      lived = lived;
      among = Contains-here lived [];
      session = session;
      times = times;
      served = record { worker = worker; of_life = Contains-here worker []; of_worker = Contains-here session (other ∷ []); timed = is_timed };
      seen = is_seen;
    }) (All-nil (IsSeenInOneOf (lived ∷ [])))
