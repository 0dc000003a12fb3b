-- A worked life that breaks in its last round: the life of WorkedLife with one round more. Before this round the clock has jumped, and what the daemon then publishes does not meet what it published before. So no true times meet what is assumed of the whole life. Its cut before this round, with a commit and a reading in it, meets all that is assumed of a cut.
use Rattle.std.proofs.Common.{◌≡◌, ℕ, List, [], ◌∷◌, length, map, true, Some, None, Ok, Err, refl, sym, ap, subst, arith, append_assoc, append-nil}
use Rattle.std.proofs.lemmas.List.Elements.{All-nil, All-cons}
use Rattle.tt_span.specs.Drift.{widening}
use Rattle.tt_span.specs.Interval.{Interval, Meets}
use Rattle.tt_poll.specs.Reading.{read_of2, first_poll_fault2}
use Rattle.tt_poll.specs.Spelling.{spelling_of2}
use Rattle.tt_poll.specs.declared.messages.Message2.TheVariants as message
use Rattle.tt_daemon.specs.Publication.{Publication}
use Rattle.tt_publish.specs.Reading.{reading_at, fused_span_of}
use Rattle.tt_publish.specs.declared.readings.FusedSpan.{FusedSpan}
use Rattle.tt_rounds.specs.Link.{Exchange, Send, Receive, Went, Came}
use Rattle.tt_rounds.specs.Course.{Given, Stand, GoesOn, ◌>>=◌, each_below, next_reading, next_gift, send, receive, put_table, send_polled, poll_at, poll_all, put_taken, take_at, take_next, turn, count_refusal, publish, publish_fused, fuse_at, round_of, rounds_of}
use Rattle.tt_rounds.specs.Making.{Leads}
use Rattle.tt_session.specs.declared.calls.Call.TheVariants as call
use Rattle.tt_stamp.proofs.Ids.{Contains-here, Contains-there}
use Rattle.tt_clock.specs.Clock.{MachineGives}
use Rattle.tt_connections.specs.Client.{ClientSays}
use Rattle.tt_world.specs.Meeting.{AllMeet, HasUnmet}
use Rattle.tt_consistency.specs.Assumed.{IsAssumed}
use Rattle.tt_consistency.specs.Calls.{RoundsCall, kept_after}
use Rattle.tt_consistency.specs.Cuts.{BreaksBehind, Cut, IsCut, IsIn, published_in}
use Rattle.tt_consistency.specs.Lives.{IsLife, Life, WorksIn, begun_in}
use Rattle.tt_consistency.specs.Order.{IsSeen}
use Rattle.tt_consistency.specs.Running.{Start}
use Rattle.tt_consistency.specs.Timed.{TimedSession, timed_of}
use Rattle.tt_consistency.specs.Timeline.{Timed}
use Rattle.tt_consistency.proofs.Cutting.{cut-meets}
use Rattle.tt_consistency.proofs.WorkedLife.{failed, unseen, clock_at, post, released, session, other, worker, sessions_between, early_calls, early_talked, early_times, early_read, late_talked, session_calls, other_calls, is_assumed, is_other_timed}
use Rattle.tt_consistency.proofs.WorkedOrder.{fused, read_at, call_at, first}
use Rattle.tt_consistency.proofs.WorkedRun.{one, start, timeline_of, call_of, ended, stand_in, is_running-0, published-0}

-- ---- the last round: the clock has jumped to 500000, and the source answers truly
abbrev late_span : Interval
late_span = record { lo = 1100; hi = 1108 }

abbrev late_bytes : List ℕ
late_bytes = spelling_of2 (message.Answer (record { machine = 0; source = 0; nonce = 2; epoch = 1; span = late_span }))

abbrev late_given : Given
late_given = record { readings = Some 500100 ∷ Some 500110 ∷ Some 500111 ∷ []; gifts = Went ∷ Came (record { peer = 0; bytes = late_bytes }) ∷ []; grants = true ∷ [] }

abbrev late_sent : Exchange
late_sent = record { call = Send (record { peer = 0; bytes = spelling_of2 (message.Request (record { machine = 0; source = 0; nonce = 2; epoch = 1 })) }); gift = Went }

abbrev late_came : Exchange
late_came = record { call = Receive; gift = Came (record { peer = 0; bytes = late_bytes }) }

abbrev late_ended : List Exchange → Stand
late_ended exchanges = record (stand_in (ended 0 []) (rounds_of 1 1 (ended 0 []) late_given)) { exchanges = exchanges }

abbrev late_call : RoundsCall
late_call = record { rounds = 1; turns = 1; given = late_given; exchanges = late_sent ∷ late_came ∷ []; from = ended 0; to = late_ended; answer = Ok tt }

late-leads : Leads (rounds_of 1 1) late_given (late_sent ∷ late_came ∷ []) (ended 0) late_ended (Ok tt)
unfolding spelling_of2 read_of2 first_poll_fault2 widening ◌>>=◌ each_below next_reading next_gift send receive put_table send_polled poll_at poll_all put_taken take_at take_next turn count_refusal publish publish_fused fuse_at round_of rounds_of
late-leads = record { leads = λ past rest. ap (λ (exchanges : List Exchange). GoesOn tt (late_ended exchanges) rest) (append_assoc past (late_sent ∷ []) (late_came ∷ [])) }

-- what it published
abbrev late_fused : Publication
late_fused = record { clock = 500111; span = record { lo = 1100; hi = 1120 }; spans = record { lo = 1100; hi = 1120 } ∷ []; faulty = 0; certificate = record { left = []; right = []; below = []; above = [] } }

-- ---- the life
abbrev broken_life : Life MachineGives failed ClientSays 1
broken_life = record {
  config = one;
  number = 0;
  epoch = 1;
  lease = worker.post.lease;
  stampers = None;
  ahead = 0;
  max_width = 1000;
  calls = late_call ∷ call_of 0 ∷ [];
  source = unseen.source;
  published = fused ∷ late_fused ∷ [];
  workers = worker ∷ [];
}

late-published : (kept_after (begun_in broken_life) (late_call ∷ call_of 0 ∷ [])).published ≡ fused_span_of fused ∷ fused_span_of late_fused ∷ []
unfolding spelling_of2 read_of2 first_poll_fault2 widening ◌>>=◌ each_below next_reading next_gift send receive put_table send_polled poll_at poll_all put_taken take_at take_next turn count_refusal publish publish_fused fuse_at round_of rounds_of
late-published = refl

broken-works : WorksIn broken_life worker
broken-works = record { watch = refl; lease = refl; stampers = refl; ahead = refl; width = refl; in_turn = sessions_between; seen = (late_fused ∷ [], refl) }

broken-is : IsLife broken_life
broken-is = record {
  configured = is_running-0.configured;
  first = omega arith;
  last = omega arith;
  in_turn = (late-leads, refl, is_running-0.in_turn);
  rising = (500111, (111, 500111, (0, 111, omega arith, (omega arith, (omega arith, (omega arith, refl))), omega arith), (omega arith, (omega arith, (omega arith, refl))), omega arith));
  published = sym late-published;
  workers = All-cons (WorksIn broken_life) worker [] broken-works (All-nil (WorksIn broken_life));
}

-- ---- no true times meet what is assumed of it
apart : Meets (reading_at 100 (fused_span_of fused) 500111) (fused_span_of late_fused).span → ⊥
unfolding widening
apart meets = omega (arith, meets.1.0, meets.2.1)

broken-unmet : HasUnmet 100 (map fused_span_of broken_life.published)
broken-unmet = record { i = 0; k = 1; earlier = fused_span_of fused; later = fused_span_of late_fused; in_order = omega arith; first = refl; second = refl; apart = apart }

broken-assumed : (start : Start) (timeline : List Timed) → IsAssumed broken_life start timeline → ⊥
broken-assumed start timeline assumed =
    let whole : Cut MachineGives failed ClientSays 1 = record { life = broken_life; calls = broken_life.calls; start = start; timeline = timeline } in
    let is : IsCut whole = record { proved = broken-is; later = []; calls_are = refl; assumed = assumed } in
    let all : AllMeet 100 (fused_span_of fused ∷ fused_span_of late_fused ∷ []) = subst (AllMeet 100) late-published (cut-meets MachineGives failed ClientSays 1 whole is) in
    apart (all 0 1 (fused_span_of fused) (fused_span_of late_fused) (omega arith) refl refl).meets

-- ---- its cut before the last round
abbrev pub cut : Cut MachineGives failed ClientSays 1
cut = record { life = broken_life; calls = call_of 0 ∷ []; start = start; timeline = timeline_of 0 }

cut-is : IsCut cut
cut-is = record {
  proved = broken-is;
  later = late_call ∷ [];
  calls_are = refl;
  assumed = record {
    lives = is_assumed.lives;
    at = is_assumed.at;
    clock = is_assumed.clock;
    told = is_assumed.told;
    of_time = is_assumed.of_time;
    times = is_assumed.times;
    begins = is_assumed.begins;
    readings = is_assumed.readings;
    nonces = is_assumed.nonces;
    drift = is_assumed.drift;
    few_faulty = is_assumed.few_faulty;
  };
}

one_published : length (published_in cut) ≡ 1
one_published = ap (length {A = FusedSpan}) published-0

-- the session that commits, up to the answer that the commit is released; then the clock jumps
abbrev pub committer : TimedSession MachineGives failed ClientSays
committer = record {
  client = tt;
  post = post unseen (clock_at 0);
  after = released;
  calls = early_calls;
  talked = early_talked;
  times = early_times;
}

committer-in : IsIn cut committer
committer-in = record {
  begun = record {
    worker = worker;
    of_life = Contains-here worker [];
    whole = session;
    of_worker = Contains-here session (other ∷ []);
    begins = record { client = refl; post = refl; later = call.Now (Err 1823) ∷ []; calls_are = session_calls; goes_on = late_talked };
  };
  seen = omega (arith, one_published);
  in_order = (omega arith, omega arith, omega arith, (omega arith, omega arith, omega arith, (omega arith, omega arith, omega arith, tt)));
  read = early_read;
}

committer-seen : IsSeen committer.calls committer.times first
committer-seen = record { number = 1; begun = 1; released = 2; committed = record { begins = (0, refl); releases = refl; later = omega arith }; began = omega arith; ended = omega arith }

-- the session that reads, which ends before
abbrev pub reader : TimedSession MachineGives failed ClientSays
reader = timed_of other (call_at 130 ∷ [])

reader-in : IsIn cut reader
reader-in = record {
  begun = record {
    worker = worker;
    of_life = Contains-here worker [];
    whole = other;
    of_worker = Contains-there session (other ∷ []) other (Contains-here other []);
    begins = record { client = refl; post = refl; later = []; calls_are = sym (append-nil other.session.calls); goes_on = refl };
  };
  seen = omega (arith, one_published);
  in_order = is_other_timed.in_order;
  read = is_other_timed.read;
}

-- ---- so it broke behind this cut
pub broken-behind : BreaksBehind cut reader (read_at 130) committer first
broken-behind = record { last = late_call; behind = refl; unmet = broken-unmet; refuted = broken-assumed; is_cut = cut-is; reader_in = reader-in; given = other_calls; committer_in = committer-in; seen = committer-seen }
