-- The worked timeline as that of one call, in which every premise of the law of calls in turn holds.
use Rattle.std.proofs.Common.{◌≡◌, ◌<◌, ◌^◌, List, [], ◌∷◌, ◌++◌, length, Ok, refl, ap, arith, append_assoc}
use Rattle.tt_span.specs.Drift.{widening, KeepsDrift}
use Rattle.tt_poll.specs.Reading.{read_of2, first_poll_fault2}
use Rattle.tt_poll.specs.Spelling.{spelling_of2}
use Rattle.tt_poll.specs.declared.messages.Message2.TheVariants as message
use Rattle.tt_daemon.specs.Config.{IsConfiguration}
use Rattle.tt_rounds.specs.Link.{Send, Receive, Went, Came, Exchange}
use Rattle.tt_rounds.specs.Course.{Given, Stand, Outcome, GoesOn, Ends, Lacks, ◌>>=◌, each_below, next_reading, next_gift, send, receive, put_table, send_polled, poll_at, poll_all, put_taken, take_at, take_next, turn, count_refusal, publish, publish_fused, fuse_at, round_of, rounds_of}
use Rattle.tt_rounds.specs.Making.{before_rest}
use Rattle.tt_consistency.specs.Calls.{RoundsCall, AreInTurn, calls_steps}
use Rattle.tt_consistency.specs.CourseSteps.{steps_below}
use Rattle.tt_consistency.specs.Steps.{new_kept}
use Rattle.tt_consistency.specs.Timeline.{steps_told, moments_told, IsTimeline, AreOfTime}
use Rattle.tt_consistency.proofs.WorkedRounds.{bytes, one, timeline, begin, given}

-- where a course stands that goes on
abbrev reached : Outcome (Unit {0}) → Stand
reached (GoesOn value stand rest) = stand
reached (Ends fault stand rest) = stand
reached Lacks = begin

abbrev sent : Exchange
sent = record { call = Send (record { peer = 0; bytes = spelling_of2 (message.Request (record { machine = 0; source = 0; nonce = 1; epoch = 1 })) }); gift = Went }

abbrev came : Exchange
came = record { call = Receive; gift = Came (record { peer = 0; bytes = bytes }) }

abbrev call : RoundsCall
call = record {
  rounds = 1;
  turns = 1;
  given = given;
  exchanges = sent ∷ came ∷ [];
  from = λ past. record begin { exchanges = past };
  to = λ past. record (reached (rounds_of 1 1 begin given)) { exchanges = past };
  answer = Ok tt;
}

leads : (past : List Exchange) (rest : Given) → rounds_of 1 1 (call.from past) (before_rest given rest) ≡ GoesOn tt (call.to (past ++ sent ∷ came ∷ [])) rest
unfolding spelling_of2 read_of2 first_poll_fault2 widening steps_below ◌>>=◌ each_below next_reading next_gift send receive put_table send_polled poll_at poll_all put_taken take_at take_next turn count_refusal publish publish_fused fuse_at round_of rounds_of
leads past rest = ap (λ (exchanges : List Exchange). GoesOn tt (call.to exchanges) rest) (append_assoc past (sent ∷ []) (came ∷ []))

in_turn : AreInTurn (new_kept one 0 1) (call ∷ [])
in_turn = (record { leads = leads }, refl, tt)

steps_are : steps_told timeline ≡ calls_steps (call ∷ [])
unfolding spelling_of2 read_of2 first_poll_fault2 widening steps_below ◌>>=◌ each_below next_reading next_gift send receive put_table send_polled poll_at poll_all put_taken take_at take_next turn count_refusal publish publish_fused fuse_at round_of rounds_of
steps_are = refl

configuration : IsConfiguration one
configuration = record { some_source = omega arith; not_too_many = omega arith; enough = omega arith; drift_in = omega arith; some_worker = omega arith; workers_in = omega arith }

-- the life began with the poll
is_timeline : IsTimeline 1000 100 timeline
is_timeline = (omega arith, omega arith, (omega arith, omega arith), (omega arith, omega arith, (omega arith, omega arith), (omega arith, omega arith, tt, (omega arith, omega arith, (omega arith, omega arith), tt))))

of_time : AreOfTime timeline
of_time = (tt, (tt, (record { ordered = omega arith; in_time = omega arith }, (tt, tt))))

keeps_drift : KeepsDrift 100 (moments_told timeline ++ record { clock = 100; time = 1000 } ∷ [])
keeps_drift = ((omega arith, (omega arith, (omega arith, tt))), ((omega arith, (omega arith, tt)), ((omega arith, tt), (tt, tt))))

short : length timeline < 2 ^ 64
short = omega arith
