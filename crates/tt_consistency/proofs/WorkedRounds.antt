-- A worked timeline, in which every premise of the laws of timelines holds: one source is polled, answers, and is fused.
use Rattle.std.proofs.Common.{◌≡◌, ℕ, true, false, List, [], ◌∷◌, ◌++◌, length, map, Some, refl, sym, ap, subst, arith, length-append}
use Rattle.tt_span.specs.Drift.{widening, KeepsDrift}
use Rattle.tt_span.specs.Interval.{Interval}
use Rattle.tt_poll.specs.Reading.{read_of2, first_poll_fault2}
use Rattle.tt_poll.specs.Spelling.{spelling_of2}
use Rattle.tt_poll.specs.declared.messages.Message2.TheVariants as message
use Rattle.tt_daemon.specs.Config.{Configuration}
use Rattle.tt_daemon.specs.Daemon.{new_daemon}
use Rattle.tt_rounds.specs.Link.{Went, Came}
use Rattle.tt_rounds.specs.Course.{Given, Stand, ◌>>=◌, each_below, next_reading, next_gift, send, receive, put_table, send_polled, poll_at, poll_all, put_taken, take_at, take_next, turn, count_refusal, publish, publish_fused, fuse_at, round_of, rounds_of}
use Rattle.tt_rounds.specs.Tallies.{no_tally}
use Rattle.tt_world.specs.Assumptions.{false_count}
use Rattle.tt_world.specs.Life.{Life}
use Rattle.tt_world.specs.declared.events.Event.{Event}
use Rattle.tt_world.specs.declared.events.Action.TheVariants as action
use Rattle.tt_consistency.specs.Faulty.{IsCorrect, HasFewFaulty, FewFaulty}
use Rattle.tt_consistency.specs.Steps.{Polls, Takes, Fuses, kept_at}
use Rattle.tt_consistency.specs.CourseSteps.{steps_below, rounds_steps}
use Rattle.tt_consistency.specs.Timeline.{Happening, Does, Answers, Timed, steps_told, moments_told, events_of, IsTimeline}

abbrev span : Interval
span = record { lo = 1000; hi = 1008 }

-- the answer to the first poll of machine 0 in its first life
abbrev pub bytes : List ℕ
bytes = spelling_of2 (message.Answer (record { machine = 0; source = 0; nonce = 1; epoch = 1; span = span }))

-- a machine with one source, whose clock may drift by 100 parts per million
abbrev pub one : Configuration
one = record { sources = 1; faulty = 0; drift = 100; workers = 1 }

-- polled at the true time 1000, answered at 1005, taken at 1010 and fused at 1011
abbrev pub timeline : List Timed
timeline =
    record { at = 1011; happening = Does (Fuses 111) }
    ∷ record { at = 1010; happening = Does (Takes 0 bytes 110) }
    ∷ record { at = 1005; happening = Answers 0 1 span }
    ∷ record { at = 1000; happening = Does (Polls 0 100) }
    ∷ []

is_timeline : IsTimeline 0 0 timeline
is_timeline = (omega arith, omega arith, (omega arith, omega arith), (omega arith, omega arith, (omega arith, omega arith), (omega arith, omega arith, tt, (omega arith, omega arith, (omega arith, omega arith), tt))))

keeps_drift : KeepsDrift 100 (moments_told timeline)
keeps_drift = ((omega arith, (omega arith, tt)), ((omega arith, tt), (tt, tt)))

-- the events before the fusion
abbrev before : List Event
before =
    record { at = 1010; action = action.Deliver 1 110 }
    ∷ record { at = 1005; action = action.Answer 0 span }
    ∷ record { at = 1000; action = action.Send 0 0 100 }
    ∷ []

events_are : events_of [] 0 timeline ≡ record { at = 1011; action = action.Fuse 0 111 } ∷ before
unfolding spelling_of2
events_are = refl

-- the answer was true when it was given
none_false : false_count one before (record { machine = 0; number = 1 }) ≡ 0
unfolding spelling_of2 read_of2 first_poll_fault2
none_false = refl

-- the course of one round of one turn, by a new daemon
abbrev pub begin : Stand
begin = record { daemon = new_daemon 0 one 1; published = []; exchanges = []; tally = no_tally }

abbrev pub given : Given
given = record { readings = Some 100 ∷ Some 110 ∷ Some 111 ∷ []; gifts = Went ∷ Came (record { peer = 0; bytes = bytes }) ∷ []; grants = true ∷ [] }

steps_are : steps_told timeline ≡ rounds_steps 1 1 begin given
unfolding spelling_of2 read_of2 first_poll_fault2 widening steps_below ◌>>=◌ each_below next_reading next_gift send receive put_table send_polled poll_at poll_all put_taken take_at take_next turn count_refusal publish publish_fused fuse_at round_of rounds_of
steps_are = refl

published_are : (kept_at (one ∷ []) (events_of [] 0 timeline) 0).published ≡ record { clock = 111; span = record { lo = 1000; hi = 1020 } } ∷ []
unfolding spelling_of2 read_of2 first_poll_fault2 widening
published_are = refl

-- ---- what is assumed of the source

abbrev life : Life
life = record { machine = 0; number = 1 }

-- what was told before the fusion
abbrev earlier : List Timed
earlier =
    record { at = 1010; happening = Does (Takes 0 bytes 110) }
    ∷ record { at = 1005; happening = Answers 0 1 span }
    ∷ record { at = 1000; happening = Does (Polls 0 100) }
    ∷ []

correct : IsCorrect one life earlier 0
unfolding spelling_of2 read_of2 first_poll_fault2
correct = (omega arith, omega arith)

-- where nobody gave the bytes, the source is not correct
made_up : IsCorrect one life (record { at = 1010; happening = Does (Takes 0 bytes 110) } ∷ record { at = 1000; happening = Does (Polls 0 100) } ∷ []) 0 → ⊥
unfolding spelling_of2 read_of2 first_poll_fault2
made_up h = h

-- nor where the answer did not hold the true time when it was given
too_late : IsCorrect one life (record { at = 1010; happening = Does (Takes 0 bytes 110) } ∷ record { at = 1009; happening = Answers 0 1 span } ∷ record { at = 1000; happening = Does (Polls 0 100) } ∷ []) 0 → ⊥
unfolding spelling_of2 read_of2 first_poll_fault2
too_late h = omega (arith, h.1)

abbrev happenings : List Timed → List Happening
happenings timeline = map (λ (timed : Timed). timed.happening) timeline

-- the one fusion of the timeline
the_fusion : (later rest : List Timed) (at clock : ℕ) → timeline ≡ later ++ record { at = at; happening = Does (Fuses clock) } ∷ rest → rest ≡ earlier
the_fusion [] rest at clock is = cc
the_fusion (a ∷ []) rest at clock is = let same = ap happenings is in absurd cc
the_fusion (a ∷ b ∷ []) rest at clock is = let same = ap happenings is in absurd cc
the_fusion (a ∷ b ∷ c ∷ []) rest at clock is = let same = ap happenings is in absurd cc
the_fusion (a ∷ b ∷ c ∷ d ∷ later) rest at clock is =
    absurd (omega (arith, ap length is, length-append later (record { at = at; happening = Does (Fuses clock) } ∷ rest)))

few_faulty : FewFaulty one life timeline
few_faulty later rest at clock is = subst (HasFewFaulty one life) (sym (the_fusion later rest at clock is)) (record {
  faulty = false ∷ [];
  few = record { one_flag_each = refl; few = omega arith };
  others = λ source out. let only : 0 ≡ source = omega (arith, out.0) in subst (IsCorrect one life earlier) only correct;
})
