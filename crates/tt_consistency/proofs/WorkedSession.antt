-- A worked history, in which every premise of the laws holds: machine 0 commits, and then a commit comes to machine 1.
use Rattle.std.proofs.Common.{◌≡◌, ℕ, ◌+◌, ◌-◌, ◌<◌, ◌≤◌, nat_lt, if◌then◌else◌, [], ◌∷◌, Bool, true, false, Option, None, Result, Ok, Err, refl, sym, ap, ◌∙◌, subst, arith}
use Rattle.std.specs.Prelude.{MatchBool}
use Rattle.std.proofs.lemmas.Bool.{le-ltb}
use Rattle.std.proofs.lemmas.List.Elements.{All-nil}
use Rattle.tt_span.specs.Drift.{widening, aged_low, aged_high}
use Rattle.tt_span.specs.Interval.{Interval, whole}
use Rattle.tt_daemon.specs.Publication.{Publication}
use Rattle.tt_publish.specs.Known.{WatchState}
use Rattle.tt_publish.specs.Looks.{Looks}
use Rattle.tt_publish.specs.Reading.{reading_at, fused_span_of}
use Rattle.tt_stamp.specs.Stamping.{SeatState, new_seat, IsLegalRun, Gives}
use Rattle.tt_stamp.specs.declared.commits.Entry.TheVariants.{Queued, Passed}
use Rattle.tt_stamp.specs.declared.commits.Receipt.{Receipt}
use Rattle.tt_stamp.specs.declared.stampings.Stamping.{Stamping}
use Rattle.tt_session.specs.Desk.{Queues}
use Rattle.tt_session.specs.declared.calls.Call.TheVariants.{Begin, Pass}
use Rattle.tt_connections.specs.Station.{PostState, StationState, Allows, admission, CommitsAt, Keeps, new_station, id_at}
use Rattle.tt_connections.specs.Fault.{number_of}
use Rattle.tt_connections.specs.declared.presence.Question.{Question}
use Rattle.tt_connections.proofs.Leasing.{stamps_whole}
use Rattle.tt_connections.proofs.Turning.{talks-on}
use Rattle.tt_connections.specs.declared.faults.StationFault.TheVariants.{FloorAboveCap, TooWide}
use Rattle.tt_consistency.specs.Timed.{TimedSession, IsTimed, times_at}
use Rattle.tt_consistency.specs.Order.{BeginsAt, IsCommitted}
use Rattle.tt_consistency.proofs.Judging.{stamps-ordered}

-- a clock of the world claims nothing, the client never leaves, and the machine is never broken
abbrev gives : Unit {0} → Option ℕ → Unit {0} → Type 0
gives before given after = Unit {0}

abbrev failed : Unit {0} → ℕ
failed clock = 0

abbrev says : Unit {0} → Question → Bool → Type 0
says client question answer = answer ≡ false

-- fused when the clock showed 0; the clock does not drift
abbrev fused : Publication
fused = record { clock = 0; span = record { lo = 1000; hi = 1008 }; spans = []; faulty = 0; certificate = record { left = []; right = []; below = []; above = [] } }

abbrev watch : WatchState
watch = record { source = record { book = record { number = 0; log_name = 0; cells_name = 0 }; chain = 0 }; drift = 0; items = fused ∷ [] }

abbrev seat : SeatState
seat = new_seat (record { words = 0; slots = 0; views_name = 0; atom = 0; block = 0; offset = 0; slot_names = [] }) 1 0

abbrev post : PostState (Unit {0})
post = record { watch = watch; clock = tt; seat = seat; lease = whole; stampers = None; ahead = 0; max_width = 1000 }

abbrev begin : StationState (Unit {0}) (Unit {0})
begin = new_station post tt

abbrev interval : ℕ → ℕ → Interval
interval low high = record { lo = low; hi = high }

-- ---- a reading when the clock shows so much
abbrev read_at : ℕ → Interval
read_at clock = record { lo = 1000 + clock; hi = 1008 + clock }

reads_at : (clock : ℕ) → clock ≤ 1000 → read_at clock ≡ reading_at 0 (fused_span_of fused) clock
unfolding widening
reads_at clock early =
    let low : 1000 + clock ≡ aged_low 0 1000 (clock - 0) = omega arith in
    let high : 1008 + clock ≡ aged_high 0 1008 (clock - 0) = omega arith in
    ap (λ (x : ℕ). interval x (1008 + clock)) low ∙ ap (λ (x : ℕ). interval (aged_low 0 1000 (clock - 0)) x) high

looks_at : (clock : ℕ) → clock ≤ 1000 → Looks gives failed watch tt (Ok (read_at clock)) watch tt
looks_at clock early = record {
  same = (refl, refl);
  seen = ([], refl);
  reading = (fused, clock, refl, tt, (omega arith, omega arith), reads_at clock early);
  nothing = (λ is. absurd cc, λ is. absurd cc);
  unread = λ is. refl;
  clock_failed = λ is. absurd cc;
  clock_back = λ is. absurd cc;
  sound = λ not_failed. refl;
}

-- which is given, where a reading may be 1000 wide
admitted : (clock : ℕ) → Ok (read_at clock) ≡ admission false 1000 (read_at clock)
admitted clock =
    let given : Bool → Result Interval ℕ = λ wide. if wide then Err (number_of TooWide) else Ok (read_at clock) in
    sym (ap given (le-ltb 1000 (1008 + clock - (1000 + clock)) (omega arith)))

-- ---- a commit begins when the clock shows so much, and has the latest of the reading as its stamp
abbrev given_at : ℕ → Stamping
given_at stamp = record { number = 0; latest = stamp; floor = 0; lease = whole; stamp = stamp }

abbrev seat_after : ℕ → SeatState
seat_after stamp = record seat { seen = given_at stamp ∷ []; own = given_at stamp ∷ [] }

abbrev begun_with : ℕ → StationState (Unit {0}) (Unit {0})
begun_with stamp = record { post = record post { seat = seat_after stamp }; client = tt; lease = whole; book = Queued (id_at 1) stamp ∷ [] }

gives_at : (stamp : ℕ) → stamp ≤ 3000 → Gives seat (seat_after stamp) stamp 0 whole stamp
gives_at stamp early =
    let legal : IsLegalRun 1 (given_at stamp ∷ []) = (
      record {
        of_a_seat = omega arith;
        near = λ far. omega (arith, far);
        least = record {
          may_give = record { in_time = omega arith; from_latest = omega arith; from_floor = omega arith; from_lease = omega arith; above_all = All-nil (λ (t : ℕ). t < stamp) };
          least = λ t may. may.from_latest;
        };
        in_lease = omega arith;
      },
      tt,
    ) in
    record { same = record { table = refl; seats = refl; numbers = refl; legal = legal; mine = refl }; number = 0; of_seat = refl; between = []; after = refl; own = refl }

queues_at : (stamp : ℕ) → Queues [] (id_at 1) stamp (Ok tt) (Queued (id_at 1) stamp ∷ [])
queues_at stamp = record { fault = tt; ok = refl; err = tt }

below_cap : (clock : ℕ) → nat_lt (1008 + clock + 0) 0 ≡ false
below_cap clock = le-ltb (1008 + clock + 0) 0 (omega arith)

begins_at : (clock : ℕ) → clock ≤ 1000 → Allows gives failed says begin (Begin 1 0 (Ok (1008 + clock))) (begun_with (1008 + clock))
begins_at clock early = record {
  lease = refl;
  stampers = refl;
  ahead = refl;
  max_width = refl;
  client = refl;
  own = refl;
  given = Ok (read_at clock);
  look = record { looked = Ok (read_at clock); looks = looks_at clock early; admits = (false, refl, admitted clock) };
  rest = subst (λ (capped : Bool). MatchBool capped (◌≡◌ {A = Result ℕ ℕ} (Ok (1008 + clock)) (Err (number_of FloorAboveCap)) × Keeps begin (begun_with (1008 + clock))) (CommitsAt begin 1 0 (read_at clock) (Ok (1008 + clock)) (begun_with (1008 + clock)))) (sym (below_cap clock)) (
    Ok (1008 + clock),
    stamps_whole 0 whole (read_at clock) seat (Ok (1008 + clock)) (seat_after (1008 + clock)) (record { ordered = omega arith; in_time = omega arith }) (λ far. omega (arith, far), gives_at (1008 + clock) (omega arith), omega arith, (omega arith, omega arith)),
    (Ok tt, queues_at (1008 + clock), refl),
  );
}

-- ---- machine 0: its commit begins when its clock shows 10, and is released when it shows 30
abbrev receipt : Receipt
receipt = record { id = id_at 1; stamp = 1018; earliest = 1030 }

abbrev released : StationState (Unit {0}) (Unit {0})
released = record (begun_with 1018) { book = Passed receipt ∷ Queued (id_at 1) 1018 ∷ [] }

passes : Allows gives failed says (begun_with 1018) (Pass 1 (Ok true)) released
passes = record {
  lease = refl;
  stampers = refl;
  ahead = refl;
  max_width = refl;
  client = refl;
  own = refl;
  given = Ok (read_at 30);
  look = record { looked = Ok (read_at 30); looks = looks_at 30 (omega arith); admits = (false, refl, admitted 30) };
  rest = (refl, refl, (refl, omega arith));
}

abbrev earlier : TimedSession gives failed says
earlier = record {
  client = tt;
  post = post;
  after = released;
  calls = Begin 1 0 (Ok 1018) ∷ Pass 1 (Ok true) ∷ [];
  talked = talks-on gives failed says (Begin 1 0 (Ok 1018) ∷ Pass 1 (Ok true) ∷ []) begin released (begun_with 1018, begins_at 10 (omega arith), (released, passes, refl));
  times = record { came = 1011; read = 1012; answered = 1013 } ∷ record { came = 1030; read = 1033; answered = 1034 } ∷ [];
}

earlier_is_timed : IsTimed gives failed says earlier
unfolding begins_at passes
earlier_is_timed = record {
  in_order = (omega arith, omega arith, omega arith, (omega arith, omega arith, omega arith, tt));
  hold = ((omega arith, omega arith), ((omega arith, omega arith), refl));
}

is_committed : IsCommitted earlier.calls 1 1018 0 1
is_committed = record { begins = (0, refl); releases = refl; later = omega arith }

-- ---- machine 1: a commit comes after that, and begins when the clock shows 45
abbrev later : TimedSession gives failed says
later = record {
  client = tt;
  post = post;
  after = begun_with 1053;
  calls = Begin 1 0 (Ok 1053) ∷ [];
  talked = talks-on gives failed says (Begin 1 0 (Ok 1053) ∷ []) begin (begun_with 1053) (begun_with 1053, begins_at 45 (omega arith), refl);
  times = record { came = 1040; read = 1047; answered = 1048 } ∷ [];
}

later_is_timed : IsTimed gives failed says later
unfolding begins_at
later_is_timed = record { in_order = (omega arith, omega arith, omega arith, tt); hold = ((omega arith, omega arith), refl) }

begins_later : BeginsAt later.calls 0 1 1053
begins_later = (0, refl)

-- the first was answered to be released before the second came
in_order : (times_at earlier.times 1).answered ≤ (times_at later.times 0).came
in_order = omega arith

-- so the law says what is so
ordered : 1018 < 1053
ordered = stamps-ordered gives failed says gives failed says earlier later 1 1018 0 1 1 1053 0 earlier_is_timed later_is_timed is_committed begins_later in_order
