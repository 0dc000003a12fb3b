-- What a timeline says of its sources, and what the model says of them after its events: the same.
use Rattle.std.proofs.Common.{◌||◌, ◌≡◌, ℕ, ◌+◌, ◌<◌, ◌≤◌, Bool, true, false, cond, ltb, leb, eqb, ◌&&◌, not, List, [], ◌∷◌, ◌++◌, length, slice_get, is_some, is_ok, IfSome, Option, Some, None, Result, Ok, Err, inl, inr, refl, sym, ap, ap₂, subst, ◌∙◌, arith, le-ltb, lt-ltb, eq-eqb, ne_eqb, leb-true, le-leb, append-nil, length-append}
use Rattle.std.specs.Option.{option_or}
use Rattle.std.specs.Result.{result_ok}
use Rattle.std.proofs.lemmas.Bool.{or_from, and_parts, cases_eq, eqb-true, not-false}
use Rattle.std.proofs.lemmas.List.FromFn.{length-map-range_with_len}
use Rattle.tt_span.specs.Time.{max_time}
use Rattle.tt_span.specs.Interval.{Interval}
use Rattle.tt_poll.specs.Message.{PollRequest2, PollAnswer2}
use Rattle.tt_poll.specs.Reading.{read_of2}
use Rattle.tt_poll.specs.Spelling.{spelling_of2}
use Rattle.tt_poll.specs.declared.faults.PollFault.{PollFault}
use Rattle.tt_poll.specs.declared.messages.Message2.{Message2}
use Rattle.tt_poll.specs.declared.messages.Message2.TheVariants as spoken
use Rattle.tt_source.specs.Statement.{Statement}
use Rattle.tt_source.specs.Table.{TableState, SourceState, Sending, take_of, after_statement, statement_of_message, waiting_for, statement_of_answer, unknown_source}
use Rattle.tt_source.specs.declared.faults.SourceFault.{SourceFault}
use Rattle.tt_source.specs.declared.faults.SourceFault.TheVariants.{NotMine, OtherEpoch}
use Rattle.tt_daemon.specs.Config.{Configuration}
use Rattle.tt_world.specs.Assumptions.{origin_of, is_lying, is_false_statement}
use Rattle.tt_world.specs.Config.{config_at}
use Rattle.tt_world.specs.Life.{Life, life_of, life_at, is_of}
use Rattle.tt_world.specs.Packet.{source_of_packet, bytes_of, answer_to}
use Rattle.tt_world.specs.Past.{packets_of, sends_now}
use Rattle.tt_world.specs.Private.Machine.{source_of, polled_clock_of}
use Rattle.tt_world.specs.Sources.{stated_in, outstanding_poll}
use Rattle.tt_world.specs.declared.events.Event.{Event}
use Rattle.tt_world.specs.declared.events.Action.TheVariants.{Send, Answer, Forge, Deliver, Fuse}
use Rattle.tt_world.specs.declared.packets.Packet.{Packet}
use Rattle.tt_world.specs.declared.packets.Packet.TheVariants.{Asked, Answered, Forged}
use Rattle.tt_world.proofs.Histories.Origins.{origin-new}
use Rattle.tt_world.proofs.Histories.Places.{get_back}
use Rattle.tt_world.proofs.Simulation.Kept.{machine_of-forge}
use Rattle.tt_world.proofs.Simulation.Ranges.{get_or-made}
use Rattle.tt_world.proofs.Simulation.Taking.{take_of-taken}
use Rattle.tt_world.proofs.Simulation.Waiting.{happens}
use Rattle.tt_consistency.specs.Faulty.{kept_told, is_asking, has_asked, GivenAnswer, answer_by, Taken, last_taken, WasTrue, IsCorrect}
use Rattle.tt_consistency.specs.Steps.{Kept, Polls, Takes, Fuses, kept_of, kept_at}
use Rattle.tt_consistency.specs.Timeline.{Happening, Does, Answers, Timed, last_place, is_request_in, are_same, is_answer_with, take_events, answer_events, events_at}
use Rattle.tt_consistency.proofs.Lying.{is_false-more}
use Rattle.tt_consistency.proofs.Putting.{IsOfLife, is_lie_at, last_place-one, place-within, lie-old, lie-same}
use Rattle.tt_consistency.proofs.Running.{IsAnswer, answer-found, place-stands}

-- ---- which sources are correct, as a test

-- whether an answer was made up, or did not hold the true time when it was given
abbrev pub lied : Option GivenAnswer → Bool
lied None = true
lied (Some given) = not (leb given.span.lo given.at && leb given.at given.span.hi)

abbrev faulty_by : Configuration → Life → ℕ → Option Taken → Bool
faulty_by config life source None = false
faulty_by config life source (Some taken) = lied (answer_by config life source taken.bytes taken.before)

-- whether a source is faulty in what was told
abbrev pub is_faulty : Configuration → Life → List Timed → ℕ → Bool
is_faulty config life timeline source = faulty_by config life source (last_taken config life source timeline)

true-not_lied : (o : Option GivenAnswer) → WasTrue o → lied o ≡ false
true-not_lied None h = absurd h
true-not_lied (Some given) h = ap₂ (λ (a b : Bool). not (a && b)) (le-leb given.span.lo given.at h.0) (le-leb given.at given.span.hi h.1)

not_lied-true : (o : Option GivenAnswer) → lied o ≡ false → WasTrue o
not_lied-true None h = absurd cc
not_lied-true (Some given) h =
    let parts = and_parts (leb given.span.lo given.at) (leb given.at given.span.hi) (not-false _ h) in
    (leb-true given.span.lo given.at parts.0, leb-true given.at given.span.hi parts.1)

pub correct-not_faulty : (config : Configuration) (life : Life) (timeline : List Timed) (source : ℕ) → IsCorrect config life timeline source → is_faulty config life timeline source ≡ false
correct-not_faulty config life timeline source h = by_taken (last_taken config life source timeline) h
  where
    by_taken : (o : Option Taken) → IfSome o (λ taken. WasTrue (answer_by config life source taken.bytes taken.before)) → faulty_by config life source o ≡ false
    by_taken None is = refl
    by_taken (Some taken) is = true-not_lied (answer_by config life source taken.bytes taken.before) is

pub not_faulty-correct : (config : Configuration) (life : Life) (timeline : List Timed) (source : ℕ) → is_faulty config life timeline source ≡ false → IsCorrect config life timeline source
not_faulty-correct config life timeline source h = by_taken (last_taken config life source timeline) h
  where
    by_taken : (o : Option Taken) → faulty_by config life source o ≡ false → IfSome o (λ taken. WasTrue (answer_by config life source taken.bytes taken.before))
    by_taken None is = tt
    by_taken (Some taken) is = not_lied-true (answer_by config life source taken.bytes taken.before) is

-- ---- plain facts

and_true : (b : Bool) → b && true ≡ b
and_true true = refl
and_true false = refl

and_false : (b : Bool) → b && false ≡ false
and_false true = refl
and_false false = refl

some-or : (b : Bool) (k : ℕ) (o : Option ℕ) → is_some (cond b (Some k) o) ≡ b || is_some o
some-or true k o = refl
some-or false k o = refl

some-if : (b : Bool) (o : Option Statement) → is_some (cond b o None) ≡ b && is_some o
some-if true o = refl
some-if false o = refl

ok-stated : (table : TableState) (i clock : ℕ) (made : Result Statement SourceFault) → is_ok (after_statement table i clock made) ≡ is_some (result_ok made)
ok-stated table i clock (Ok statement) = refl
ok-stated table i clock (Err fault) = refl

epoch_if : (own same : Bool) (made : Result Statement SourceFault) → is_some (result_ok (cond (not own) (Err NotMine) (cond (not same) (Err OtherEpoch) made))) ≡ true → same ≡ true
epoch_if true true made h = refl
epoch_if true false made h = absurd cc
epoch_if false same made h = absurd cc

-- what makes a statement is an answer to a request of the life
said : (life : Life) (i clock : ℕ) (waiting : Option Sending) (bytes : List ℕ) (message : Result Message2 PollFault) → read_of2 bytes ≡ message
    → is_some (result_ok (statement_of_message life.machine life.number i waiting clock message)) ≡ true → IsOfLife life bytes
said life i clock waiting bytes (Err fault) reads h = absurd cc
said life i clock waiting bytes (Ok (spoken.Request request)) reads h = absurd cc
said life i clock waiting bytes (Ok (spoken.Answer answer)) reads h = record {
  answer = answer;
  reads = reads;
  epoch = eqb-true answer.epoch life.number (epoch_if (eqb answer.machine life.machine && eqb answer.source i) (eqb answer.epoch life.number) (statement_of_answer (waiting_for waiting answer.nonce) answer clock) h);
}

-- the request that was found
request-found : (life : Life) (source nonce : ℕ) (p : Packet) → is_request_in life source nonce p ≡ true
    → p ≡ Asked (record { machine = life.machine; source = source; nonce = nonce; epoch = life.number })
request-found life source nonce (Asked request) is =
    let third = and_parts (eqb request.machine life.machine && eqb request.epoch life.number && eqb request.source source) (eqb request.nonce nonce) is in
    let second = and_parts (eqb request.machine life.machine && eqb request.epoch life.number) (eqb request.source source) third.0 in
    let first = and_parts (eqb request.machine life.machine) (eqb request.epoch life.number) second.0 in
    ap (λ (x : ℕ). Asked (record { machine = x; source = request.source; nonce = request.nonce; epoch = request.epoch })) (eqb-true request.machine life.machine first.0)
    ∙ ap (λ (x : ℕ). Asked (record { machine = life.machine; source = x; nonce = request.nonce; epoch = request.epoch })) (eqb-true request.source source second.1)
    ∙ ap (λ (x : ℕ). Asked (record { machine = life.machine; source = source; nonce = x; epoch = request.epoch })) (eqb-true request.nonce nonce third.1)
    ∙ ap (λ (x : ℕ). Asked (record { machine = life.machine; source = source; nonce = nonce; epoch = x })) (eqb-true request.epoch life.number first.1)
request-found life source nonce (Answered answer) is = absurd cc
request-found life source nonce (Forged machine s payload) is = absurd cc

module _ (configs : List Configuration) (m number : ℕ) where
  -- the life of the timeline
  abbrev pub life : Life
  life = record { machine = m; number = number }

  -- the set-up of its machine
  abbrev config : Configuration
  config = config_at configs m

  -- the past says of the requests, the answers and the sources of this life what the timeline says
  pub record Agrees (past : List Event) (timeline : List Timed) : Type 0 where
    pub same_life : life_of past m ≡ number
    pub asked : (source nonce : ℕ) → is_some (last_place (is_request_in life source nonce) (packets_of past)) ≡ has_asked config life source nonce timeline
    pub answered : (source : ℕ) (bytes : List ℕ) → IsOfLife life bytes → is_lie_at past (last_place (is_answer_with m source bytes) (packets_of past)) ≡ lied (answer_by config life source bytes timeline)
    pub faulty : (i : ℕ) → i < config.sources → is_false_statement past life i ≡ is_faulty config life timeline i

  pub own_life : (past : List Event) → life_of past m ≡ number → life_at past m ≡ life
  own_life past same = ap (λ (n : ℕ). record { machine = m; number = n }) same

  own_machine : eqb m m ≡ true
  own_machine = eq-eqb m m refl

  own_both : (past : List Event) → life_of past m ≡ number → (eqb m m && eqb (life_of past m) number) ≡ true
  own_both past same = ap₂ (λ (a b : Bool). a && b) own_machine (eq-eqb (life_of past m) number same)

  module _ (past : List Event) (timeline : List Timed) (agrees : Agrees past timeline) (at : ℕ) where
    nothing_put : (test : Packet → Bool) → last_place test (packets_of past ++ []) ≡ last_place test (packets_of past)
    nothing_put test = ap (last_place test) (append-nil (packets_of past))

    pub agrees-fuse : (clock : ℕ) → Agrees (happens at (Fuse m clock) ∷ past) (record { at = at; happening = Does (Fuses clock) } ∷ timeline)
    agrees-fuse clock = record {
      same_life = agrees.same_life;
      asked = λ source nonce. ap is_some (nothing_put (is_request_in life source nonce)) ∙ agrees.asked source nonce;
      answered = λ source bytes says. lie-same (is_answer_with m source bytes) past (happens at (Fuse m clock)) (nothing_put (is_answer_with m source bytes)) ∙ agrees.answered source bytes says;
      faulty = λ i below. is_false-more past (happens at (Fuse m clock)) life i false refl ∙ agrees.faulty i below;
    }

    pub agrees-forge : (s : ℕ) (bytes : List ℕ) → Agrees (happens at (Forge m s bytes) ∷ past) timeline
    agrees-forge s payload = record {
      same_life = agrees.same_life;
      asked = λ source nonce. ap is_some (last_place-one (is_request_in life source nonce) (packets_of past) (Forged m s payload)) ∙ agrees.asked source nonce;
      answered = λ source bytes says.
          lie-same (is_answer_with m source bytes) past (happens at (Forge m s payload)) (last_place-one (is_answer_with m source bytes) (packets_of past) (Forged m s payload))
          ∙ agrees.answered source bytes says;
      faulty = λ i below. is_false-more past (happens at (Forge m s payload)) life i false refl ∙ agrees.faulty i below;
    }

    -- ---- a poll

    module _ (kept : kept_at configs past m ≡ kept_told config life timeline) (s clock : ℕ) where
      -- the request of the poll
      abbrev request : PollRequest2
      request = record { machine = m; source = s; nonce = sends_now past m + 1; epoch = life_of past m }

      asks : (source nonce : ℕ) → is_request_in life source nonce (Asked request) ≡ is_asking (kept_told config life timeline) source nonce (Does (Polls s clock))
      asks source nonce =
          ap (λ (b : Bool). b && eqb s source && eqb (sends_now past m + 1) nonce) (own_both past agrees.same_life)
          ∙ ap (λ (n : ℕ). eqb s source && eqb (n + 1) nonce) (ap (λ (k : Kept). k.daemon.table.last) kept)

      pub agrees-send : Agrees (happens at (Send m s clock) ∷ past) (record { at = at; happening = Does (Polls s clock) } ∷ timeline)
      agrees-send = record {
        same_life = agrees.same_life;
        asked = λ source nonce.
            ap is_some (last_place-one (is_request_in life source nonce) (packets_of past) (Asked request))
            ∙ some-or (is_request_in life source nonce (Asked request)) (length (packets_of past)) (last_place (is_request_in life source nonce) (packets_of past))
            ∙ ap₂ (λ (a b : Bool). a || b) (asks source nonce) (agrees.asked source nonce);
        answered = λ source bytes says.
            lie-same (is_answer_with m source bytes) past (happens at (Send m s clock)) (last_place-one (is_answer_with m source bytes) (packets_of past) (Asked request))
            ∙ agrees.answered source bytes says;
        faulty = λ i below. is_false-more past (happens at (Send m s clock)) life i false refl ∙ agrees.faulty i below;
      }

    -- ---- an answer

    module _ (s nonce : ℕ) (span : Interval) where
      -- what is given
      abbrev given : PollAnswer2
      given = record { machine = m; source = s; nonce = nonce; epoch = number; span = span }

      -- whether it counts as an answer of this source by these bytes
      abbrev counts : ℕ → List ℕ → Bool
      counts source bytes =
          eqb s source && are_same (spelling_of2 (spoken.Answer (record { machine = m; source = source; nonce = nonce; epoch = number; span = span }))) bytes && has_asked config life source nonce timeline

      abbrev told : Timed
      told = record { at = at; happening = Answers s nonce span }

      not_counted : (source : ℕ) (bytes : List ℕ) → (s ≡ source → ⊥) → counts source bytes ≡ false
      not_counted source bytes other =
          ap (λ (b : Bool). b && are_same (spelling_of2 (spoken.Answer (record { machine = m; source = source; nonce = nonce; epoch = number; span = span }))) bytes && has_asked config life source nonce timeline)
          (ne_eqb s source other)

      -- an answer to no request
      unasked : (source : ℕ) (bytes : List ℕ) → has_asked config life s nonce timeline ≡ false → counts source bytes ≡ false
      unasked source bytes none = elim (cases_eq s source) [
        | inl same ↦
            subst (λ (j : ℕ). counts j bytes ≡ false) same
            (ap (λ (b : Bool). eqb s s && are_same (spelling_of2 (spoken.Answer given)) bytes && b) none ∙ and_false (eqb s s && are_same (spelling_of2 (spoken.Answer given)) bytes))
        | inr other ↦ not_counted source bytes other
      ]

      pub agrees-none : last_place (is_request_in life s nonce) (packets_of past) ≡ None → Agrees past (told ∷ timeline)
      agrees-none is = record {
        same_life = agrees.same_life;
        asked = agrees.asked;
        answered = λ source bytes says.
            agrees.answered source bytes says
            ∙ ap (λ (b : Bool). lied (option_or (cond b (Some (record { at = at; span = span })) None) (answer_by config life source bytes timeline)))
            (sym (unasked source bytes (sym (agrees.asked s nonce) ∙ ap is_some is)));
        faulty = agrees.faulty;
      }

      module _ (k : ℕ) (is : last_place (is_request_in life s nonce) (packets_of past) ≡ Some k) where
        abbrev event : Event
        event = happens at (Answer k span)

        put : packets_of (event ∷ past) ≡ packets_of past ++ Answered given ∷ []
        put =
            let (p, stands, passes) = place-stands (is_request_in life s nonce) (packets_of past) k is in
            ap (λ (o : Option Packet). packets_of past ++ answer_to o span) (stands ∙ ap (λ (q : Packet). Some q) (request-found life s nonce p passes))

        has : has_asked config life s nonce timeline ≡ true
        has = sym (agrees.asked s nonce) ∙ ap is_some is

        place-after : (test : Packet → Bool) → last_place test (packets_of (event ∷ past)) ≡ cond (test (Answered given)) (Some (length (packets_of past))) (last_place test (packets_of past))
        place-after test = ap (last_place test) put ∙ last_place-one test (packets_of past) (Answered given)

        passes-counted : (source : ℕ) (bytes : List ℕ) → is_answer_with m source bytes (Answered given) ≡ counts source bytes
        passes-counted source bytes =
            ap (λ (b : Bool). b && eqb s source && are_same (bytes_of (Answered given)) bytes) own_machine
            ∙ elim (cases_eq s source) [
              | inl same ↦
                  subst (λ (j : ℕ). eqb s j && are_same (bytes_of (Answered given)) bytes ≡ counts j bytes) same
                  (sym (ap (λ (b : Bool). eqb s s && are_same (bytes_of (Answered given)) bytes && b) has ∙ and_true (eqb s s && are_same (bytes_of (Answered given)) bytes)))
              | inr other ↦ ap (λ (b : Bool). b && are_same (bytes_of (Answered given)) bytes) (ne_eqb s source other) ∙ sym (not_counted source bytes other)
            ]

        longer : length (packets_of past) < length (packets_of (event ∷ past))
        longer = omega (arith, ap length put, length-append (packets_of past) (Answered given ∷ []))

        judged : (source : ℕ) (bytes : List ℕ) → IsOfLife life bytes → (counted : Bool)
            → is_lie_at (event ∷ past) (cond counted (Some (length (packets_of past))) (last_place (is_answer_with m source bytes) (packets_of past)))
            ≡ lied (option_or (cond counted (Some (record { at = at; span = span })) None) (answer_by config life source bytes timeline))
        judged source bytes says true = ap is_lying (origin-new past event (length (packets_of past)) (omega arith) longer)
        judged source bytes says false =
            lie-old past event (last_place (is_answer_with m source bytes) (packets_of past)) (λ j e. place-within (is_answer_with m source bytes) (packets_of past) j e)
            ∙ agrees.answered source bytes says

        pub agrees-answer : Agrees (event ∷ past) (told ∷ timeline)
        agrees-answer = record {
          same_life = agrees.same_life;
          asked = λ source n. ap is_some (place-after (is_request_in life source n)) ∙ agrees.asked source n;
          answered = λ source bytes says.
              ap (is_lie_at (event ∷ past)) (place-after (is_answer_with m source bytes))
              ∙ ap (λ (b : Bool). is_lie_at (event ∷ past) (cond b (Some (length (packets_of past))) (last_place (is_answer_with m source bytes) (packets_of past)))) (passes-counted source bytes)
              ∙ judged source bytes says (counts source bytes);
          faulty = λ i below. is_false-more past event life i false refl ∙ agrees.faulty i below;
        }

    -- ---- bytes that come

    module _ (kept : kept_at configs past m ≡ kept_told config life timeline) (s clock : ℕ) (bytes : List ℕ) (after : polled_clock_of past (life_at past m) ≤ clock) (fits : clock ≤ max_time) where
      -- what the bytes state for source i of this life
      abbrev stated : Life → ℕ → Result Statement SourceFault
      stated own i = statement_of_message own.machine own.number i (outstanding_poll past own i) clock (read_of2 bytes)

      taken-stated : (i : ℕ) → i < config.sources → is_some (result_ok (stated life i)) ≡ is_ok (take_of (kept_told config life timeline).daemon.table i clock bytes)
      taken-stated i below =
          let table = (kept_at configs past m).daemon.table in
          let there : ltb i (length table.sources) ≡ true = lt-ltb i _ (omega (arith, below, length-map-range_with_len (λ j. source_of past (life_at past m) j) 0 config.sources)) in
          let not_back : (ltb clock table.clock || ltb max_time clock) ≡ false = or_from _ _ (le-ltb clock table.clock after) (le-ltb max_time clock fits) in
          ap (λ (own : Life). is_some (result_ok (stated own i))) (sym (own_life past agrees.same_life))
          ∙ sym (ok-stated table i clock (stated (life_at past m) i))
          ∙ ap (λ (source : SourceState). is_ok (after_statement table i clock (statement_of_message m (life_of past m) i source.waiting clock (read_of2 bytes))))
          (sym (get_or-made (λ j. source_of past (life_at past m) j) config.sources i unknown_source below))
          ∙ ap is_ok (sym (take_of-taken table i clock bytes there not_back))
          ∙ ap (λ (k : Kept). is_ok (take_of k.daemon.table i clock bytes)) kept

      -- whether the bytes are taken as from source i
      abbrev is_taken : ℕ → Bool
      is_taken i = eqb s i && is_ok (take_of (kept_told config life timeline).daemon.table i clock bytes)

      module _ (k : ℕ) (p : Packet) (is : slice_get (packets_of past) k ≡ Some p) (answer : IsAnswer m s bytes p)
          (judged : IsOfLife life bytes → is_lying (origin_of past k) ≡ lied (answer_by config life s bytes timeline)) where
        states : (i : ℕ) → i < config.sources → is_some (stated_in past life i (outstanding_poll past life i) clock (slice_get (packets_of past) k)) ≡ is_taken i
        states i below =
            ap (λ (o : Option Packet). is_some (stated_in past life i (outstanding_poll past life i) clock o)) is
            ∙ ap (λ (n : ℕ). is_some (cond (is_of past life n && eqb (source_of_packet p) i) (result_ok (statement_of_message m number i (outstanding_poll past life i) clock (read_of2 (bytes_of p)))) None)) answer.machine
            ∙ ap (λ (b : Bool). is_some (cond (b && eqb (source_of_packet p) i) (result_ok (statement_of_message m number i (outstanding_poll past life i) clock (read_of2 (bytes_of p)))) None)) (own_both past agrees.same_life)
            ∙ ap (λ (n : ℕ). is_some (cond (eqb n i) (result_ok (statement_of_message m number i (outstanding_poll past life i) clock (read_of2 (bytes_of p)))) None)) answer.source_is
            ∙ ap (λ (bs : List ℕ). is_some (cond (eqb s i) (result_ok (statement_of_message m number i (outstanding_poll past life i) clock (read_of2 bs))) None)) answer.bytes_are
            ∙ some-if (eqb s i) (result_ok (stated life i))
            ∙ ap (λ (b : Bool). eqb s i && b) (taken-stated i below)

        by_taken : (i : ℕ) → i < config.sources → (taken : Bool) → is_taken i ≡ taken
            → cond taken (is_lying (origin_of past k)) (is_false_statement past life i)
            ≡ faulty_by config life i (option_or (cond taken (Some (record { bytes = bytes; before = timeline })) None) (last_taken config life i timeline))
        by_taken i below true e =
            let parts = and_parts (eqb s i) (is_ok (take_of (kept_told config life timeline).daemon.table i clock bytes)) e in
            let says : IsOfLife life bytes = said life i clock (outstanding_poll past life i) bytes (read_of2 bytes) refl (taken-stated i below ∙ parts.1) in
            judged says ∙ ap (λ (j : ℕ). lied (answer_by config life j bytes timeline)) (eqb-true s i parts.0)
        by_taken i below false e = agrees.faulty i below

        pub agrees-deliver : Agrees (happens at (Deliver k clock) ∷ past) (record { at = at; happening = Does (Takes s bytes clock) } ∷ timeline)
        agrees-deliver = record {
          same_life = agrees.same_life;
          asked = λ source nonce. ap is_some (nothing_put (is_request_in life source nonce)) ∙ agrees.asked source nonce;
          answered = λ source others says. lie-same (is_answer_with m source others) past (happens at (Deliver k clock)) (nothing_put (is_answer_with m source others)) ∙ agrees.answered source others says;
          faulty = λ i below. is_false-more past (happens at (Deliver k clock)) life i (is_taken i) (states i below) ∙ by_taken i below (is_taken i) refl;
        }

  -- ---- one more happening

  -- the clock does not go back where bytes come
  abbrev pub IsAfter : List Event → Happening → Type 0
  IsAfter past (Does (Takes s bytes clock)) = (polled_clock_of past (life_at past m) ≤ clock) × (clock ≤ max_time)
  IsAfter past _ = Unit {0}

  module _ (past : List Event) (timeline : List Timed) (agrees : Agrees past timeline) (at : ℕ) (kept : kept_at configs past m ≡ kept_told config life timeline) where
    forged : (s clock : ℕ) (bytes : List ℕ) → last_place (is_answer_with m s bytes) (packets_of past) ≡ None → polled_clock_of past (life_at past m) ≤ clock → clock ≤ max_time
        → Agrees (take_events m at s bytes clock (length (packets_of past)) None ++ past) (record { at = at; happening = Does (Takes s bytes clock) } ∷ timeline)
    forged s clock bytes is after fits =
        let forge : Event = happens at (Forge m s bytes) in
        let longer : length (packets_of past) < length (packets_of (forge ∷ past)) = omega (arith, length-append (packets_of past) (Forged m s bytes ∷ [])) in
        agrees-deliver (forge ∷ past) timeline (agrees-forge past timeline agrees at s bytes) at
        (ap kept_of (machine_of-forge config past at m s bytes (life_at past m)) ∙ kept) s clock bytes after fits
        (length (packets_of past)) (Forged m s bytes) (get_back (packets_of past) (Forged m s bytes ∷ []) (length (packets_of past)) 0 (omega arith))
        (record { machine = refl; source_is = refl; bytes_are = refl; no_request = refl })
        (λ says. ap is_lying (origin-new past forge (length (packets_of past)) (omega arith) longer) ∙ sym (ap (is_lie_at past) is) ∙ agrees.answered s bytes says)

    took : (s clock : ℕ) (bytes : List ℕ) (o : Option ℕ) → last_place (is_answer_with m s bytes) (packets_of past) ≡ o → polled_clock_of past (life_at past m) ≤ clock → clock ≤ max_time
        → Agrees (take_events m at s bytes clock (length (packets_of past)) o ++ past) (record { at = at; happening = Does (Takes s bytes clock) } ∷ timeline)
    took s clock bytes None is after fits = forged s clock bytes is after fits
    took s clock bytes (Some k) is after fits =
        let (p, stands, passes) = place-stands (is_answer_with m s bytes) (packets_of past) k is in
        agrees-deliver past timeline agrees at kept s clock bytes after fits k p stands (answer-found m s bytes p passes)
        (λ says. sym (ap (is_lie_at past) is) ∙ agrees.answered s bytes says)

    answered_by : (s nonce : ℕ) (span : Interval) (o : Option ℕ) → last_place (is_request_in life s nonce) (packets_of past) ≡ o
        → Agrees (answer_events at span o ++ past) (record { at = at; happening = Answers s nonce span } ∷ timeline)
    answered_by s nonce span None is = agrees-none past timeline agrees at s nonce span is
    answered_by s nonce span (Some k) is = agrees-answer past timeline agrees at s nonce span k is

    pub agrees-more : (happening : Happening) → IsAfter past happening → Agrees (events_at past m at happening ++ past) (record { at = at; happening = happening } ∷ timeline)
    agrees-more (Does (Polls s clock)) after = agrees-send past timeline agrees at kept s clock
    agrees-more (Does (Takes s bytes clock)) after = took s clock bytes (last_place (is_answer_with m s bytes) (packets_of past)) refl after.0 after.1
    agrees-more (Does (Fuses clock)) after = agrees-fuse past timeline agrees at clock
    agrees-more (Answers s nonce span) after =
        subst (λ (own : Life). Agrees (answer_events at span (last_place (is_request_in own s nonce) (packets_of past)) ++ past) (record { at = at; happening = Answers s nonce span } ∷ timeline))
        (sym (own_life past agrees.same_life)) (answered_by s nonce span (last_place (is_request_in life s nonce) (packets_of past)) refl)
