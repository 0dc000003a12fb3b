-- A worked history of two commits, for which every premise of the laws holds: one is committed at a session on machine 0, and then another at a session on machine 1.
use Rattle.std.proofs.Common.{◌≡◌, ℕ, ◌+◌, ◌-◌, ◌<◌, ◌≤◌, nat_lt, if◌then◌else◌, List, [], ◌∷◌, Bool, true, false, Option, Some, None, Result, Ok, Err, inl, inr, refl, sym, ap, ◌∙◌, subst, arith, All}
use Rattle.std.specs.Prelude.{MatchBool}
use Rattle.std.specs.List.{AllByRecursion}
use Rattle.std.proofs.lemmas.Bool.{le-ltb}
use Rattle.std.proofs.lemmas.List.Elements.{All-nil, All-cons}
use Rattle.tt_span.specs.Drift.{Moment, KeepsDrift, widening, aged_low, aged_high}
use Rattle.tt_span.specs.Interval.{Interval, whole}
use Rattle.tt_daemon.specs.Publication.{Publication}
use Rattle.tt_publish.specs.Known.{WatchState}
use Rattle.tt_publish.specs.Looks.{Looks}
use Rattle.tt_publish.specs.Reading.{reading_at, fused_span_of}
use Rattle.tt_stamp.specs.Stamping.{SeatState, new_seat, IsLegalRun, Gives}
use Rattle.tt_stamp.specs.declared.commits.Entry.TheVariants.{Queued, Passed}
use Rattle.tt_stamp.specs.declared.commits.Receipt.{Receipt}
use Rattle.tt_stamp.specs.declared.stampings.Stamping.{Stamping}
use Rattle.tt_session.specs.Desk.{Queues}
use Rattle.tt_session.specs.declared.calls.Call.TheVariants.{Begin, Pass}
use Rattle.tt_connections.specs.Station.{PostState, StationState, Allows, admission, CommitsAt, Keeps, new_station, id_at}
use Rattle.tt_connections.specs.Fault.{number_of}
use Rattle.tt_connections.specs.declared.presence.Question.{Question}
use Rattle.tt_connections.proofs.Leasing.{stamps_whole}
use Rattle.tt_connections.proofs.Turning.{talks-on}
use Rattle.tt_connections.specs.declared.faults.StationFault.TheVariants.{FloorAboveCap, TooWide}
use Rattle.tt_rounds.specs.Lists.{GivesInTurn}
use Rattle.tt_judge.specs.declared.history.Commit.{Commit}
use Rattle.tt_consistency.specs.Timed.{TimedSession, CallTimes}
use Rattle.tt_consistency.specs.Order.{IsSeen}
use Rattle.tt_consistency.specs.Reads.{IsTakenAt}
use Rattle.tt_consistency.specs.Timeline.{IsAmong}
use Rattle.tt_stamp.proofs.Ids.{Contains-here, Contains-there}
use Rattle.tt_consistency.specs.Running.{Machine, IsRunning, clock_moments}
use Rattle.tt_consistency.specs.Served.{IsServedOn, IsSeenOnOneOf}
use Rattle.tt_consistency.proofs.WorkedRun.{machine, is_running-0, is_running-1, published-0, published-1}

-- a clock keeps what it is to give, the client never leaves, and the machine is never broken
abbrev pub Clocks : Type 0
Clocks = List (Option ℕ)

abbrev pub failed : Clocks → ℕ
failed clock = 0

abbrev says : Unit {0} → Question → Bool → Type 0
says client question answer = answer ≡ false

-- what both machines published
abbrev pub fused : Publication
fused = record { clock = 111; span = record { lo = 1000; hi = 1020 }; spans = record { lo = 1000; hi = 1020 } ∷ []; faulty = 0; certificate = record { left = []; right = []; below = []; above = [] } }

abbrev pub watch : WatchState
watch = record { source = record { book = record { number = 0; log_name = 0; cells_name = 0 }; chain = 0 }; drift = 100; items = fused ∷ [] }

abbrev pub seat : SeatState
seat = new_seat (record { words = 0; slots = 0; views_name = 0; atom = 0; block = 0; offset = 0; slot_names = [] }) 1 0

abbrev post : Clocks → PostState Clocks
post clock = record { watch = watch; clock = clock; seat = seat; lease = whole; stampers = None; ahead = 0; max_width = 1000 }

abbrev begin : Clocks → StationState Clocks (Unit {0})
begin clock = new_station (post clock) tt

abbrev interval : ℕ → ℕ → Interval
interval low high = record { lo = low; hi = high }

-- ---- a reading when the clock shows so much
abbrev pub read_at : ℕ → Interval
read_at clock = interval (888 + clock) (910 + clock)

pub reads_at : (clock : ℕ) → 112 ≤ clock → clock ≤ 1000 → read_at clock ≡ reading_at 100 (fused_span_of fused) clock
unfolding widening
reads_at clock late early =
    let low : 888 + clock ≡ aged_low 100 1000 (clock - 111) = omega arith in
    let high : 910 + clock ≡ aged_high 100 1020 (clock - 111) = omega arith in
    ap (λ (x : ℕ). interval x (910 + clock)) low ∙ ap (λ (x : ℕ). interval (aged_low 100 1000 (clock - 111)) x) high

pub looks_at : (clock : ℕ) (later : Clocks) → 112 ≤ clock → clock ≤ 1000 → Looks GivesInTurn failed watch (Some clock ∷ later) (Ok (read_at clock)) watch later
looks_at clock later late early = record {
  same = (refl, refl);
  seen = ([], refl);
  reading = (fused, clock, refl, refl, (omega arith, omega arith), reads_at clock late early);
  nothing = (λ is. absurd cc, λ is. absurd cc);
  unread = λ is. absurd cc;
  clock_failed = λ is. absurd cc;
  clock_back = λ is. absurd cc;
  sound = λ not_failed. refl;
}

-- which is given, where a reading may be 1000 wide
pub admitted : (clock : ℕ) → Ok (read_at clock) ≡ admission false 1000 (read_at clock)
admitted clock =
    let given : Bool → Result Interval ℕ = λ wide. if wide then Err (number_of TooWide) else Ok (read_at clock) in
    sym (ap given (le-ltb 1000 (910 + clock - (888 + clock)) (omega arith)))

-- ---- a commit begins when the clock shows so much, and has the latest of the reading as its stamp
abbrev given_at : ℕ → Stamping
given_at stamp = record { number = 0; latest = stamp; floor = 0; lease = whole; stamp = stamp }

abbrev pub seat_after : ℕ → SeatState
seat_after stamp = record seat { seen = given_at stamp ∷ []; own = given_at stamp ∷ [] }

abbrev begun_with : Clocks → ℕ → StationState Clocks (Unit {0})
begun_with clock stamp = record { post = record (post clock) { seat = seat_after stamp }; client = tt; lease = whole; book = Queued (id_at 1) stamp ∷ [] }

pub gives_at : (stamp : ℕ) → stamp ≤ 3000 → Gives seat (seat_after stamp) stamp 0 whole stamp
gives_at stamp early =
    let legal : IsLegalRun 1 (given_at stamp ∷ []) = (
      record {
        of_a_seat = omega arith;
        near = λ far. omega (arith, far);
        least = record {
          may_give = record { in_time = omega arith; from_latest = omega arith; from_floor = omega arith; from_lease = omega arith; above_all = All-nil (λ (t : ℕ). t < stamp) };
          least = λ t may. may.from_latest;
        };
        in_lease = omega arith;
      },
      tt,
    ) in
    record { same = record { table = refl; seats = refl; numbers = refl; legal = legal; mine = refl }; number = 0; of_seat = refl; between = []; after = refl; own = refl }

pub queues_at : (stamp : ℕ) → Queues [] (id_at 1) stamp (Ok tt) (Queued (id_at 1) stamp ∷ [])
queues_at stamp = record { fault = tt; ok = refl; err = tt }

pub below_cap : (clock : ℕ) → nat_lt (910 + clock + 0) 0 ≡ false
below_cap clock = le-ltb (910 + clock + 0) 0 (omega arith)

begins_at : (clock : ℕ) (later : Clocks) → 112 ≤ clock → clock ≤ 1000 → Allows GivesInTurn failed says (begin (Some clock ∷ later)) (Begin 1 0 (Ok (910 + clock))) (begun_with later (910 + clock))
begins_at clock later late early = record {
  lease = refl;
  stampers = refl;
  ahead = refl;
  max_width = refl;
  client = refl;
  own = refl;
  given = Ok (read_at clock);
  look = record { looked = Ok (read_at clock); looks = looks_at clock later late early; admits = (false, refl, admitted clock) };
  rest = subst (λ (capped : Bool). MatchBool capped (◌≡◌ {A = Result ℕ ℕ} (Ok (910 + clock)) (Err (number_of FloorAboveCap)) × Keeps (begin (Some clock ∷ later)) (begun_with later (910 + clock))) (CommitsAt (begin (Some clock ∷ later)) 1 0 (read_at clock) (Ok (910 + clock)) (begun_with later (910 + clock)))) (sym (below_cap clock)) (
    Ok (910 + clock),
    stamps_whole 0 whole (read_at clock) seat (Ok (910 + clock)) (seat_after (910 + clock)) (record { ordered = omega arith; in_time = omega arith }) (λ far. omega (arith, far), gives_at (910 + clock) (omega arith), omega arith, (omega arith, omega arith)),
    (Ok tt, queues_at (910 + clock), refl),
  );
}

-- ---- and is released at the clock's next reading
abbrev pub receipt : ℕ → ℕ → Receipt
receipt stamp earliest = record { id = id_at 1; stamp = stamp; earliest = earliest }

abbrev released_with : ℕ → ℕ → StationState Clocks (Unit {0})
released_with stamp earliest = record (begun_with [] stamp) { book = Passed (receipt stamp earliest) ∷ Queued (id_at 1) stamp ∷ [] }

passes-0 : Allows GivesInTurn failed says (begun_with (Some 150 ∷ []) 1030) (Pass 1 (Ok true)) (released_with 1030 1038)
passes-0 = record { lease = refl; stampers = refl; ahead = refl; max_width = refl; client = refl; own = refl; given = Ok (read_at 150); look = record { looked = Ok (read_at 150); looks = looks_at 150 [] (omega arith) (omega arith); admits = (false, refl, admitted 150) }; rest = (refl, refl, (refl, omega arith)) }

passes-1 : Allows GivesInTurn failed says (begun_with (Some 200 ∷ []) 1080) (Pass 1 (Ok true)) (released_with 1080 1088)
passes-1 = record { lease = refl; stampers = refl; ahead = refl; max_width = refl; client = refl; own = refl; given = Ok (read_at 200); look = record { looked = Ok (read_at 200); looks = looks_at 200 [] (omega arith) (omega arith); admits = (false, refl, admitted 200) }; rest = (refl, refl, (refl, omega arith)) }

-- the true time is 900 more than the clock shows
abbrev pub call_at : ℕ → CallTimes
call_at clock = record { came = 899 + clock; read = 900 + clock; answered = 901 + clock }

-- at a session on machine 0 a commit begins when the clock shows 120, and is released when it shows 150
abbrev earlier : TimedSession GivesInTurn failed says
earlier = record {
  client = tt;
  post = post (Some 120 ∷ Some 150 ∷ []);
  after = released_with 1030 1038;
  calls = Begin 1 0 (Ok 1030) ∷ Pass 1 (Ok true) ∷ [];
  talked = talks-on GivesInTurn failed says (Begin 1 0 (Ok 1030) ∷ Pass 1 (Ok true) ∷ []) (begin (Some 120 ∷ Some 150 ∷ [])) (released_with 1030 1038)
      (begun_with (Some 150 ∷ []) 1030, begins_at 120 (Some 150 ∷ []) (omega arith) (omega arith), (released_with 1030 1038, passes-0, refl));
  times = call_at 120 ∷ call_at 150 ∷ [];
}

-- at one on machine 1 a commit begins when the clock shows 170, and is released when it shows 200
abbrev later : TimedSession GivesInTurn failed says
later = record {
  client = tt;
  post = post (Some 170 ∷ Some 200 ∷ []);
  after = released_with 1080 1088;
  calls = Begin 1 0 (Ok 1080) ∷ Pass 1 (Ok true) ∷ [];
  talked = talks-on GivesInTurn failed says (Begin 1 0 (Ok 1080) ∷ Pass 1 (Ok true) ∷ []) (begin (Some 170 ∷ Some 200 ∷ [])) (released_with 1080 1088)
      (begun_with (Some 200 ∷ []) 1080, begins_at 170 (Some 200 ∷ []) (omega arith) (omega arith), (released_with 1080 1088, passes-1, refl));
  times = call_at 170 ∷ call_at 200 ∷ [];
}

-- ---- both are served on their machines
pub among-by : (time clock made : ℕ) (moments : List Moment) → AllByRecursion (λ (moment : Moment). moment.time ≤ time) moments → IsAmong (record { clock = clock; time = made }) moments → made ≤ time
among-by time clock made [] all is = absurd is
among-by time clock made (moment ∷ moments) all (inl same) = subst (λ (m : Moment). m.time ≤ time) same all.0
among-by time clock made (moment ∷ moments) all (inr later) = among-by time clock made moments all.1 later

pub keeps : (m clock : ℕ) → 112 ≤ clock → KeepsDrift 100 (record { clock = clock; time = 900 + clock } ∷ clock_moments (machine m))
keeps m clock late = ((omega arith, (omega arith, (omega arith, (omega arith, tt)))), ((omega arith, (omega arith, (omega arith, tt))), ((omega arith, (omega arith, tt)), ((omega arith, tt), (tt, tt)))))

pub is_read : (m clock : ℕ) (later : Clocks) → 112 ≤ clock → clock ≤ 1000 → IsTakenAt GivesInTurn 100 (clock_moments (machine m)) watch (Some clock ∷ later) later (read_at clock) (900 + clock)
is_read m clock later late early = record {
  last = fused;
  clock = clock;
  last_is = refl;
  gave = refl;
  can = (omega arith, omega arith);
  reading_is = reads_at clock late early;
  drift = keeps m clock late;
  in_time = omega arith;
  no_earlier = λ made among. among-by (900 + clock) 111 made (clock_moments (machine m)) (omega arith, (omega arith, (omega arith, (omega arith, tt)))) among;
}

served-0 : IsServedOn GivesInTurn failed says (machine 0) earlier
unfolding begins_at passes-0
served-0 = record {
  in_order = (omega arith, omega arith, omega arith, (omega arith, omega arith, omega arith, tt));
  look = (
    record { seen = ([], sym published-0); read = is_read 0 120 (Some 150 ∷ []) (omega arith) (omega arith) },
    (record { seen = ([], sym published-0); read = is_read 0 150 [] (omega arith) (omega arith) }, refl),
  );
}

served-1 : IsServedOn GivesInTurn failed says (machine 1) later
unfolding begins_at passes-1
served-1 = record {
  in_order = (omega arith, omega arith, omega arith, (omega arith, omega arith, omega arith, tt));
  look = (
    record { seen = ([], sym published-1); read = is_read 1 170 (Some 200 ∷ []) (omega arith) (omega arith) },
    (record { seen = ([], sym published-1); read = is_read 1 200 [] (omega arith) (omega arith) }, refl),
  );
}

-- ---- so all premises of the law hold: both machines run, and each commit was seen at a session on one of them
pub both : {A : Type 0} (P : A → Type 0) (one other : A) → P one → P other → All P (one ∷ other ∷ [])
both P one other is is_too = All-cons P one (other ∷ []) is (All-cons P other [] is_too (All-nil P))

abbrev machines : List Machine
machines = machine 0 ∷ machine 1 ∷ []

all_run : All IsRunning machines
all_run = both IsRunning (machine 0) (machine 1) is_running-0 is_running-1

abbrev pub first : Commit
first = record { began = 1015; ended = 1055; stamp = 1030 }

abbrev pub second : Commit
second = record { began = 1060; ended = 1105; stamp = 1080 }

first_seen : IsSeen earlier.calls earlier.times first
first_seen = record { number = 1; begun = 0; released = 1; committed = record { begins = (0, refl); releases = refl; later = omega arith }; began = omega arith; ended = omega arith }

second_seen : IsSeen later.calls later.times second
second_seen = record { number = 1; begun = 0; released = 1; committed = record { begins = (0, refl); releases = refl; later = omega arith }; began = omega arith; ended = omega arith }

all_seen : All (IsSeenOnOneOf GivesInTurn failed says machines) (first ∷ second ∷ [])
all_seen =
    both (IsSeenOnOneOf GivesInTurn failed says machines) first second
    (record { machine = machine 0; among = Contains-here (machine 0) (machine 1 ∷ []); session = earlier; served = served-0; seen = first_seen })
    (record { machine = machine 1; among = Contains-there (machine 0) (machine 1 ∷ []) (machine 1) (Contains-here (machine 1) []); session = later; served = served-1; seen = second_seen })
