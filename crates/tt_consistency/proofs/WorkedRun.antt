-- A worked machine, for which every premise of its laws holds: in one call its daemon polls its one source, takes the answer and publishes the fusion.
use Rattle.std.proofs.Common.{◌≡◌, ℕ, true, false, List, [], ◌∷◌, ◌++◌, length, map, Some, Ok, refl, sym, ap, subst, arith, append_assoc, length-append}
use Rattle.tt_span.specs.Drift.{widening}
use Rattle.tt_span.specs.Interval.{Interval}
use Rattle.tt_poll.specs.Reading.{read_of2, first_poll_fault2}
use Rattle.tt_poll.specs.Spelling.{spelling_of2}
use Rattle.tt_poll.specs.declared.messages.Message2.TheVariants as message
use Rattle.tt_daemon.specs.Config.{Configuration}
use Rattle.tt_daemon.specs.Daemon.{new_daemon}
use Rattle.tt_rounds.specs.Link.{Exchange, Send, Receive, Went, Came}
use Rattle.tt_rounds.specs.Course.{Given, Stand, Outcome, GoesOn, Ends, Lacks, ◌>>=◌, each_below, next_reading, next_gift, send, receive, put_table, send_polled, poll_at, poll_all, put_taken, take_at, take_next, turn, count_refusal, publish, publish_fused, fuse_at, round_of, rounds_of}
use Rattle.tt_rounds.specs.Making.{Leads, stand_of}
use Rattle.tt_rounds.specs.Tallies.{no_tally}
use Rattle.tt_world.specs.Life.{Life}
use Rattle.tt_consistency.specs.Calls.{RoundsCall}
use Rattle.tt_consistency.specs.CourseSteps.{steps_below}
use Rattle.tt_consistency.specs.Faulty.{IsCorrect, HasFewFaulty, FewFaulty}
use Rattle.tt_consistency.specs.Steps.{Polls, Takes, Fuses}
use Rattle.tt_consistency.specs.Timeline.{Happening, Does, Answers, Timed}
use Rattle.tt_consistency.specs.Running.{Machine, IsRunning, Start, published_by}

abbrev span : Interval
span = record { lo = 1000; hi = 1008 }

-- the answer to the first poll of machine m in its first life
abbrev bytes_for : ℕ → List ℕ
bytes_for m = spelling_of2 (message.Answer (record { machine = m; source = 0; nonce = 1; epoch = 1; span = span }))

-- each machine has one source and two workers, and its clock may drift by 100 parts per million
abbrev pub one : Configuration
one = record { sources = 1; faulty = 0; drift = 100; workers = 2 }

-- the life begins at the true time 990, when the clock shows 90
abbrev pub start : Start
start = record { lives = 0; at = 990; clock = 90 }

-- polled at the true time 1000, answered at 1005, taken at 1010
abbrev before_fusion : ℕ → List Timed
before_fusion m =
    record { at = 1010; happening = Does (Takes 0 (bytes_for m) 110) }
    ∷ record { at = 1005; happening = Answers 0 1 span }
    ∷ record { at = 1000; happening = Does (Polls 0 100) }
    ∷ []

-- and fused at 1011
abbrev pub timeline_of : ℕ → List Timed
timeline_of m = record { at = 1011; happening = Does (Fuses 111) } ∷ before_fusion m

-- one call of one round of one turn, by a new daemon
abbrev given_to : ℕ → Given
given_to m = record { readings = Some 100 ∷ Some 110 ∷ Some 111 ∷ []; gifts = Went ∷ Came (record { peer = 0; bytes = bytes_for m }) ∷ []; grants = true ∷ [] }

abbrev sent_by : ℕ → Exchange
sent_by m = record { call = Send (record { peer = 0; bytes = spelling_of2 (message.Request (record { machine = m; source = 0; nonce = 1; epoch = 1 })) }); gift = Went }

abbrev came_to : ℕ → Exchange
came_to m = record { call = Receive; gift = Came (record { peer = 0; bytes = bytes_for m }) }

abbrev begin : ℕ → List Exchange → Stand
begin m exchanges = stand_of (new_daemon m one 1) [] no_tally exchanges

abbrev pub stand_in : Stand → Outcome (Unit {0}) → Stand
stand_in begun (GoesOn value stand given) = stand
stand_in begun (Ends fault stand given) = stand
stand_in begun Lacks = begun

abbrev pub ended : ℕ → List Exchange → Stand
ended m exchanges = record (stand_in (begin m []) (rounds_of 1 1 (begin m []) (given_to m))) { exchanges = exchanges }

abbrev pub call_of : ℕ → RoundsCall
call_of m = record { rounds = 1; turns = 1; given = given_to m; exchanges = sent_by m ∷ came_to m ∷ []; from = begin m; to = ended m; answer = Ok tt }

abbrev pub machine : ℕ → Machine
machine m = record { config = one; number = m; start = start; calls = call_of m ∷ []; timeline = timeline_of m }

-- ---- a source that is correct before the fusion is enough
abbrev life : ℕ → Life
life m = record { machine = m; number = 1 }

abbrev happenings : List Timed → List Happening
happenings timeline = map (λ (timed : Timed). timed.happening) timeline

-- the one fusion of the timeline
the_fusion : (m : ℕ) (later rest : List Timed) (at clock : ℕ) → timeline_of m ≡ later ++ record { at = at; happening = Does (Fuses clock) } ∷ rest → rest ≡ before_fusion m
the_fusion m [] rest at clock is = cc
the_fusion m (a ∷ []) rest at clock is = let same = ap happenings is in absurd cc
the_fusion m (a ∷ b ∷ []) rest at clock is = let same = ap happenings is in absurd cc
the_fusion m (a ∷ b ∷ c ∷ []) rest at clock is = let same = ap happenings is in absurd cc
the_fusion m (a ∷ b ∷ c ∷ d ∷ later) rest at clock is =
    absurd (omega (arith, ap length is, length-append later (record { at = at; happening = Does (Fuses clock) } ∷ rest)))

few_faulty-by : (m : ℕ) → IsCorrect one (life m) (before_fusion m) 0 → FewFaulty one (life m) (timeline_of m)
few_faulty-by m correct later rest at clock is = subst (HasFewFaulty one (life m)) (sym (the_fusion m later rest at clock is)) (record {
  faulty = false ∷ [];
  few = record { one_flag_each = refl; few = omega arith };
  others = λ source out. let only : 0 ≡ source = omega (arith, out.0) in subst (IsCorrect one (life m) (before_fusion m)) only correct;
})

-- ---- machine 0
leads-0 : Leads (rounds_of 1 1) (given_to 0) (sent_by 0 ∷ came_to 0 ∷ []) (begin 0) (ended 0) (Ok tt)
unfolding spelling_of2 read_of2 first_poll_fault2 widening ◌>>=◌ each_below next_reading next_gift send receive put_table send_polled poll_at poll_all put_taken take_at take_next turn count_refusal publish publish_fused fuse_at round_of rounds_of
leads-0 = record { leads = λ past rest. ap (λ (exchanges : List Exchange). GoesOn tt (ended 0 exchanges) rest) (append_assoc past (sent_by 0 ∷ []) (came_to 0 ∷ [])) }

correct-0 : IsCorrect one (life 0) (before_fusion 0) 0
unfolding spelling_of2 read_of2 first_poll_fault2
correct-0 = (omega arith, omega arith)

pub is_running-0 : IsRunning (machine 0)
unfolding spelling_of2 read_of2 first_poll_fault2 widening steps_below ◌>>=◌ each_below next_reading next_gift send receive put_table send_polled poll_at poll_all put_taken take_at take_next turn count_refusal publish publish_fused fuse_at round_of rounds_of
is_running-0 = record {
  configured = record { some_source = omega arith; not_too_many = omega arith; enough = omega arith; drift_in = omega arith; some_worker = omega arith; workers_in = omega arith };
  lives = omega arith;
  at = omega arith;
  clock = omega arith;
  in_turn = (leads-0, refl, tt);
  told = refl;
  of_time = (tt, (tt, (record { ordered = omega arith; in_time = omega arith }, (tt, tt))));
  forward = (omega arith, omega arith, (omega arith, omega arith), (omega arith, omega arith, (omega arith, omega arith), (omega arith, omega arith, tt, (omega arith, omega arith, (omega arith, omega arith), tt))));
  nonces = omega arith;
  drift = ((omega arith, (omega arith, (omega arith, tt))), ((omega arith, (omega arith, tt)), ((omega arith, tt), (tt, tt))));
  few_faulty = few_faulty-by 0 correct-0;
}

pub published-0 : published_by (machine 0) ≡ record { clock = 111; span = record { lo = 1000; hi = 1020 } } ∷ []
unfolding spelling_of2 read_of2 first_poll_fault2 widening ◌>>=◌ each_below next_reading next_gift send receive put_table send_polled poll_at poll_all put_taken take_at take_next turn count_refusal publish publish_fused fuse_at round_of rounds_of
published-0 = refl

-- ---- machine 1
leads-1 : Leads (rounds_of 1 1) (given_to 1) (sent_by 1 ∷ came_to 1 ∷ []) (begin 1) (ended 1) (Ok tt)
unfolding spelling_of2 read_of2 first_poll_fault2 widening ◌>>=◌ each_below next_reading next_gift send receive put_table send_polled poll_at poll_all put_taken take_at take_next turn count_refusal publish publish_fused fuse_at round_of rounds_of
leads-1 = record { leads = λ past rest. ap (λ (exchanges : List Exchange). GoesOn tt (ended 1 exchanges) rest) (append_assoc past (sent_by 1 ∷ []) (came_to 1 ∷ [])) }

correct-1 : IsCorrect one (life 1) (before_fusion 1) 0
unfolding spelling_of2 read_of2 first_poll_fault2
correct-1 = (omega arith, omega arith)

pub is_running-1 : IsRunning (machine 1)
unfolding spelling_of2 read_of2 first_poll_fault2 widening steps_below ◌>>=◌ each_below next_reading next_gift send receive put_table send_polled poll_at poll_all put_taken take_at take_next turn count_refusal publish publish_fused fuse_at round_of rounds_of
is_running-1 = record {
  configured = record { some_source = omega arith; not_too_many = omega arith; enough = omega arith; drift_in = omega arith; some_worker = omega arith; workers_in = omega arith };
  lives = omega arith;
  at = omega arith;
  clock = omega arith;
  in_turn = (leads-1, refl, tt);
  told = refl;
  of_time = (tt, (tt, (record { ordered = omega arith; in_time = omega arith }, (tt, tt))));
  forward = (omega arith, omega arith, (omega arith, omega arith), (omega arith, omega arith, (omega arith, omega arith), (omega arith, omega arith, tt, (omega arith, omega arith, (omega arith, omega arith), tt))));
  nonces = omega arith;
  drift = ((omega arith, (omega arith, (omega arith, tt))), ((omega arith, (omega arith, tt)), ((omega arith, tt), (tt, tt))));
  few_faulty = few_faulty-by 1 correct-1;
}

pub published-1 : published_by (machine 1) ≡ record { clock = 111; span = record { lo = 1000; hi = 1020 } } ∷ []
unfolding spelling_of2 read_of2 first_poll_fault2 widening ◌>>=◌ each_below next_reading next_gift send receive put_table send_polled poll_at poll_all put_taken take_at take_next turn count_refusal publish publish_fused fuse_at round_of rounds_of
published-1 = refl
