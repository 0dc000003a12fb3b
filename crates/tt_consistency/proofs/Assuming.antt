-- Few sources are faulty in a timeline where few lie in its events, and the other way round.
use Rattle.std.proofs.Common.{◌≡◌, ℕ, suc, ◌<◌, ◌≤◌, ◌^◌, Bool, true, false, cond, List, [], ◌∷◌, ◌++◌, length, map, get_or, Option, Some, None, refl, sym, ap, subst, ◌∙◌, arith, append_assoc, is_some}
use Rattle.std.specs.List.{count_by, range_with_len}
use Rattle.std.proofs.lemmas.List.FromFn.{length-map-range_with_len}
use Rattle.std.specs.Option.{option_or, option_and_then}
use Rattle.std.proofs.lemmas.List.{get_or-replicate}
use Rattle.tt_span.specs.Interval.{Interval}
use Rattle.tt_source.specs.Statement.{Statement}
use Rattle.tt_source.specs.Table.{SourceState, unknown_source}
use Rattle.tt_fuse.proofs.Counting.{count_by-cons}
use Rattle.tt_daemon.specs.Config.{Configuration}
use Rattle.tt_world.specs.Assumptions.{origin_of, delivered_by, packet_of_statement, is_lying, is_false_statement, false_count, HasFewFalse, FewLie}
use Rattle.tt_world.specs.Bad.{accepted}
use Rattle.tt_world.specs.Config.{config_at}
use Rattle.tt_world.specs.Life.{Life, life_of, life_at}
use Rattle.tt_world.specs.Past.{time_of, clock_of, packets_of, sends_of, sends_now}
use Rattle.tt_world.specs.Private.Machine.{source_of, polled_clock_of}
use Rattle.tt_world.specs.Sources.{stated_by, outstanding_poll, statement_of}
use Rattle.tt_world.specs.declared.events.Event.{Event}
use Rattle.tt_world.specs.declared.events.Action.TheVariants.{Fuse}
use Rattle.tt_world.proofs.Histories.Judging.{AreGood, good_accepted}
use Rattle.tt_world.proofs.Histories.Lasting.{Lasts, Lasts-accepted}
use Rattle.tt_world.proofs.Histories.Origins.{epochs_fit}
use Rattle.tt_world.proofs.Histories.Places.{count_by-map}
use Rattle.tt_world.proofs.Simulation.Ranges.{get_or-made}
use Rattle.tt_consistency.specs.Faulty.{kept_told, HasFewFaulty, FewFaulty}
use Rattle.tt_consistency.specs.Steps.{Kept, Polls, Takes, Fuses, kept_at, new_kept, after_steps}
use Rattle.tt_consistency.specs.Timeline.{Happening, Does, Answers, Timed, steps_told, last_shown, AreOf, IsForward, IsTimeline, last_place, is_request_in, is_answer_with, answer_events, take_events, events_at, events_of, BeginsLife}
use Rattle.tt_consistency.proofs.Faulting.{Agrees, correct-not_faulty, not_faulty-correct, own_life, IsAfter, agrees-more}
use Rattle.tt_consistency.proofs.LivingRounds.{goes_on_by-steps, sends_of-le}
use Rattle.tt_consistency.proofs.Putting.{is_lie_at, no-request, no-answer}
use Rattle.tt_consistency.proofs.Running.{told, named_before}

-- ---- how many

one_le : (x y : Bool) → (y ≡ false → x ≡ false) → cond x 1 0 ≤ cond y 1 0
one_le false y h = omega arith
one_le true true h = omega arith
one_le true false h = let same : true ≡ false = h refl in absurd cc

-- flags that are up only where others are
fewer : (xs ys : List Bool) → length xs ≡ length ys → ((k : ℕ) → k < length ys → get_or ys k true ≡ false → get_or xs k true ≡ false) → count_by (λ b. b) xs ≤ count_by (λ b. b) ys
fewer [] ys same each = omega arith
fewer (x ∷ xs) [] same each = absurd (omega (arith, same))
fewer (x ∷ xs) (y ∷ ys) same each =
    let rest : count_by (λ b. b) xs ≤ count_by (λ b. b) ys = fewer xs ys (omega (arith, same)) (λ k below down. each (suc k) (omega arith) down) in
    let here : cond x 1 0 ≤ cond y 1 0 = one_le x y (each 0 (omega arith)) in
    omega (arith, rest, here, count_by-cons (λ b. b) x xs, count_by-cons (λ b. b) y ys)

-- ---- nothing stated

none_of : (o rest : Option Statement) → option_or o rest ≡ None → (o ≡ None) × (rest ≡ None)
none_of None rest h = (refl, h)
none_of (Some s) rest h = absurd cc

packet-none : (past : List Event) (life : Life) (i : ℕ) → statement_of past life i ≡ None → packet_of_statement past life i ≡ None
packet-none [] life i none = refl
packet-none (event ∷ past) life i none =
    let parts = none_of (stated_by past life i (outstanding_poll past life i) event.action) (statement_of past life i) none in
    ap (λ (o : Option Statement). cond (is_some o) (delivered_by event.action) (packet_of_statement past life i)) parts.0 ∙ packet-none past life i parts.1

unstated-true : (past : List Event) (life : Life) (i : ℕ) → statement_of past life i ≡ None → is_false_statement past life i ≡ false
unstated-true past life i none = ap (λ (o : Option ℕ). is_lying (option_and_then (origin_of past) o)) (packet-none past life i none)

module _ (configs : List Configuration) (m number : ℕ) where
  -- the life of the timeline
  abbrev own : Life
  own = record { machine = m; number = number }

  abbrev config : Configuration
  config = config_at configs m

  -- one flag for each source, up where its statement is false
  abbrev flags : List Event → List Bool
  flags past = map (λ i. is_false_statement past own i) (range_with_len 0 config.sources)

  flags-each : (past : List Event) → length (flags past) ≡ config.sources
  flags-each past = length-map-range_with_len (λ i. is_false_statement past own i) 0 config.sources

  flags-count : (past : List Event) → count_by (λ b. b) (flags past) ≡ false_count config past own
  flags-count past = count_by-map (λ i. is_false_statement past own i) (range_with_len 0 config.sources)

  few-false : (past : List Event) (timeline : List Timed) → Agrees configs m number past timeline → HasFewFaulty config own timeline → false_count config past own ≤ config.faulty
  few-false past timeline agrees has =
      let each : length (flags past) ≡ length has.faulty = flags-each past ∙ sym has.few.one_flag_each in
      let down : (k : ℕ) → k < length has.faulty → get_or has.faulty k true ≡ false → get_or (flags past) k true ≡ false = λ k below out.
      let named : k < config.sources = omega (arith, has.few.one_flag_each) in
      get_or-made (λ i. is_false_statement past own i) config.sources k true named
      ∙ agrees.faulty k named ∙ correct-not_faulty config own timeline k (has.others k (below, out)) in
      let less = fewer (flags past) has.faulty each down in
      omega (arith, less, has.few.few, flags-count past)

  few-faulty : (past : List Event) (timeline : List Timed) → Agrees configs m number past timeline → false_count config past own ≤ config.faulty → HasFewFaulty config own timeline
  few-faulty past timeline agrees few = record {
    faulty = flags past;
    few = record { one_flag_each = flags-each past; few = omega (arith, few, flags-count past) };
    others = λ source out.
        let named : source < config.sources = omega (arith, out.0, flags-each past) in
        not_faulty-correct config own timeline source
        (sym (agrees.faulty source named) ∙ sym (get_or-made (λ i. is_false_statement past own i) config.sources source true named) ∙ out.1);
  }

  -- ---- a timeline

  module _ (there : m < length configs) (base : List Event) (good : accepted configs base ≡ base) (as_new : kept_at configs base m ≡ new_kept config m number) (none_polled : sends_now base m ≡ 0) where
    begins : life_of base m ≡ number
    begins = ap (λ (k : Kept). k.daemon.table.epoch) as_new

    -- the events of a timeline after the base
    abbrev past_of : List Timed → List Event
    past_of timeline = events_of base m timeline ++ base

    -- what is assumed of a timeline
    record CanBe (timeline : List Timed) : Type 0 where
      named : AreOf config.sources (steps_told timeline)
      is_timeline : IsTimeline (time_of base) (clock_of base (life_at base m)) timeline
      room : sends_now (past_of timeline) m < 2 ^ 64

    -- the events of one more happening stand before those of the timeline
    more : (timed : Timed) (timeline : List Timed) → past_of (timed ∷ timeline) ≡ events_at (past_of timeline) m timed.at timed.happening ++ past_of timeline
    more timed timeline = append_assoc (events_at (past_of timeline) m timed.at timed.happening) (events_of base m timeline) base

    before : (timed : Timed) (timeline : List Timed) → CanBe (timed ∷ timeline) → CanBe timeline
    before timed timeline can = record {
      named = named_before configs m there base timed.happening (steps_told timeline) can.named;
      is_timeline = can.is_timeline.3;
      room =
          let earlier = told configs m there base good timeline (named_before configs m there base timed.happening (steps_told timeline) can.named) can.is_timeline.3 in
          let later = told configs m there base good (timed ∷ timeline) can.named can.is_timeline in
          let all : sends_of (past_of (timed ∷ timeline)) (life_at base m) < 2 ^ 64 = subst (λ (n : ℕ). sends_of (past_of (timed ∷ timeline)) (record { machine = m; number = n }) < 2 ^ 64) later.same can.room in
          let split : sends_of (events_at (past_of timeline) m timed.at timed.happening ++ past_of timeline) (life_at base m) < 2 ^ 64 =
          subst (λ (events : List Event). sends_of events (life_at base m) < 2 ^ 64) (more timed timeline) all in
          let fewer_sent = sends_of-le (past_of timeline) (events_at (past_of timeline) m timed.at timed.happening) (life_at base m) in
          let left : sends_of (past_of timeline) (life_at base m) < 2 ^ 64 = omega arith in
          subst (λ (n : ℕ). sends_of (past_of timeline) (record { machine = m; number = n }) < 2 ^ 64) (sym earlier.same) left;
    }

    kept-told : (timeline : List Timed) → CanBe timeline → kept_at configs (past_of timeline) m ≡ kept_told config own timeline
    kept-told timeline can =
        let at_end = told configs m there base good timeline can.named can.is_timeline in
        goes_on_by-steps configs base (events_of base m timeline) m (steps_told timeline) at_end.good at_end.same at_end.steps_are can.room
        ∙ ap (λ (k : Kept). after_steps k (steps_told timeline)) as_new

    no_sends : sends_of base own ≡ 0
    no_sends = subst (λ (n : ℕ). sends_of base (record { machine = m; number = n }) ≡ 0) begins none_polled

    good_base : AreGood configs base
    good_base = subst (AreGood configs) good (good_accepted configs base)

    unstated : (i : ℕ) → i < config.sources → statement_of base own i ≡ None
    unstated i below =
        ap (λ (n : ℕ). statement_of base (record { machine = m; number = n }) i) (sym begins)
        ∙ ap (λ (source : SourceState). source.statement) (sym (get_or-made (λ j. source_of base (life_at base m) j) config.sources i unknown_source below))
        ∙ ap (λ (k : Kept). (get_or k.daemon.table.sources i unknown_source).statement) as_new
        ∙ ap (λ (source : SourceState). source.statement) (get_or-replicate config.sources i unknown_source unknown_source below)

    agrees-base : Agrees configs m number base []
    agrees-base = record {
      same_life = begins;
      asked = λ source nonce. ap is_some (no-request base own source nonce no_sends);
      answered = λ source bytes reads. ap (is_lie_at base) (no-answer base own source bytes no_sends (epochs_fit configs base good_base) reads);
      faulty = λ i below. unstated-true base own i (unstated i below);
    }

    is-after : (timeline : List Timed) → CanBe timeline → (happening : Happening) → IsForward (last_shown (clock_of base (life_at base m)) timeline) happening → IsAfter configs m number (past_of timeline) happening
    is-after timeline can (Does (Takes source bytes clock)) forward =
        let at_end = told configs m there base good timeline can.named can.is_timeline in
        let lasts : Lasts configs (past_of timeline) = subst (Lasts configs) at_end.good (Lasts-accepted configs (past_of timeline)) in
        let rises : polled_clock_of (past_of timeline) (life_at base m) ≤ clock_of (past_of timeline) (life_at base m) = lasts.rises (life_at base m) in
        let shows : clock_of (past_of timeline) (life_at base m) ≡ last_shown (clock_of base (life_at base m)) timeline = at_end.shows in
        let first : last_shown (clock_of base (life_at base m)) timeline ≤ clock = forward.0 in
        let after : polled_clock_of (past_of timeline) (life_at base m) ≤ clock = omega arith in
        (subst (λ (n : ℕ). polled_clock_of (past_of timeline) (record { machine = m; number = n }) ≤ clock) (sym at_end.same) after, forward.1)
    is-after timeline can (Does (Polls source clock)) forward = tt
    is-after timeline can (Does (Fuses clock)) forward = tt
    is-after timeline can (Answers source nonce span) forward = tt

    agrees-told : (timeline : List Timed) → CanBe timeline → Agrees configs m number (past_of timeline) timeline
    agrees-told [] can = agrees-base
    agrees-told (timed ∷ timeline) can =
        let earlier : CanBe timeline = before timed timeline can in
        subst (λ (events : List Event). Agrees configs m number events (timed ∷ timeline)) (sym (more timed timeline))
        (agrees-more configs m number (past_of timeline) timeline (agrees-told timeline earlier) timed.at (kept-told timeline earlier) timed.happening
        (is-after timeline earlier timed.happening can.is_timeline.2))

    -- ---- a fusion

    fuses-few : (past : List Event) (timeline : List Timed) (clock : ℕ) → Agrees configs m number past timeline → HasFewFaulty config own timeline → HasFewFalse configs past (Fuse m clock)
    fuses-few past timeline clock agrees has =
        subst (λ (life : Life). false_count config past life ≤ config.faulty) (sym (own_life configs m number past agrees.same_life)) (few-false past timeline agrees has)

    few-fuses : (past : List Event) (timeline : List Timed) (clock : ℕ) → Agrees configs m number past timeline → HasFewFalse configs past (Fuse m clock) → HasFewFaulty config own timeline
    few-fuses past timeline clock agrees few =
        few-faulty past timeline agrees (subst (λ (life : Life). false_count config past life ≤ config.faulty) (own_life configs m number past agrees.same_life) few)

    -- ---- one more happening

    took-few : (past : List Event) (at source clock count : ℕ) (bytes : List ℕ) (o : Option ℕ) → FewLie configs past → FewLie configs (take_events m at source bytes clock count o ++ past)
    took-few past at source clock count bytes None few = (tt, (tt, few))
    took-few past at source clock count bytes (Some k) few = (tt, few)

    answered-few : (past : List Event) (at : ℕ) (span : Interval) (o : Option ℕ) → FewLie configs past → FewLie configs (answer_events at span o ++ past)
    answered-few past at span None few = few
    answered-few past at span (Some k) few = (tt, few)

    happened-few : (past : List Event) (timeline : List Timed) (at : ℕ) (happening : Happening) → Agrees configs m number past timeline → FewLie configs past
        → FewFaulty config own (record { at = at; happening = happening } ∷ timeline) → FewLie configs (events_at past m at happening ++ past)
    happened-few past timeline at (Does (Polls source clock)) agrees lie few = (tt, lie)
    happened-few past timeline at (Does (Takes source bytes clock)) agrees lie few =
        took-few past at source clock (length (packets_of past)) bytes (last_place (is_answer_with m source bytes) (packets_of past)) lie
    happened-few past timeline at (Does (Fuses clock)) agrees lie few = (fuses-few past timeline clock agrees (few [] timeline at clock refl), lie)
    happened-few past timeline at (Answers source nonce span) agrees lie few =
        answered-few past at span (last_place (is_request_in (life_at past m) source nonce) (packets_of past)) lie

    earlier-few : (timed : Timed) (timeline : List Timed) → FewFaulty config own (timed ∷ timeline) → FewFaulty config own timeline
    earlier-few timed timeline few = λ later rest at clock is. few (timed ∷ later) rest at clock (ap (λ (t : List Timed). timed ∷ t) is)

    few-lie : FewLie configs base → (timeline : List Timed) → CanBe timeline → FewFaulty config own timeline → FewLie configs (past_of timeline)
    few-lie first [] can few = first
    few-lie first (timed ∷ timeline) can few =
        let earlier : CanBe timeline = before timed timeline can in
        subst (FewLie configs) (sym (more timed timeline))
        (happened-few (past_of timeline) timeline timed.at timed.happening (agrees-told timeline earlier) (few-lie first timeline earlier (earlier-few timed timeline few)) few)

    -- ---- and back

    few-before : (events past : List Event) → FewLie configs (events ++ past) → FewLie configs past
    few-before [] past few = few
    few-before (event ∷ events) past few = few-before events past few.1

    few-back : (later rest : List Timed) (at clock : ℕ) → CanBe (later ++ record { at = at; happening = Does (Fuses clock) } ∷ rest)
        → FewLie configs (past_of (later ++ record { at = at; happening = Does (Fuses clock) } ∷ rest)) → HasFewFaulty config own rest
    few-back [] rest at clock can few =
        few-fuses (past_of rest) rest clock (agrees-told rest (before (record { at = at; happening = Does (Fuses clock) }) rest can)) few.0
    few-back (timed ∷ later) rest at clock can few =
        let timeline = later ++ record { at = at; happening = Does (Fuses clock) } ∷ rest in
        few-back later rest at clock (before timed timeline can)
        (few-before (events_at (past_of timeline) m timed.at timed.happening) (past_of timeline) (subst (FewLie configs) (more timed timeline) few))

    few-told : (timeline : List Timed) → CanBe timeline → FewLie configs (past_of timeline) → FewFaulty config own timeline
    few-told timeline can few = λ later rest at clock is.
        few-back later rest at clock (subst CanBe is can) (subst (λ (t : List Timed). FewLie configs (past_of t)) is few)

-- ---- for a base that begins a life

module _ (configs : List Configuration) (m number at clock : ℕ) (base : List Event) (timeline : List Timed) (there : m < length configs) (begins : BeginsLife configs m number at clock base)
    (named : AreOf (config_at configs m).sources (steps_told timeline)) (is_timeline : IsTimeline (time_of base) (clock_of base (life_at base m)) timeline) (room : sends_now (events_of base m timeline ++ base) m < 2 ^ 64) where
  pub lie-from_told : FewFaulty (config_at configs m) (record { machine = m; number = number }) timeline → FewLie configs (events_of base m timeline ++ base)
  lie-from_told few =
      few-lie configs m number there base begins.good begins.as_new begins.none_polled begins.few_lie timeline
      (record { named = named; is_timeline = is_timeline; room = room }) few

  pub told-from_lie : FewLie configs (events_of base m timeline ++ base) → FewFaulty (config_at configs m) (record { machine = m; number = number }) timeline
  told-from_lie few =
      few-told configs m number there base begins.good begins.as_new begins.none_polled timeline
      (record { named = named; is_timeline = is_timeline; room = room }) few
