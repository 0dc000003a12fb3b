-- A timeline of a daemon and its sources is a run of the model.
use Rattle.std.proofs.Common.{◌||◌, ◌≡◌, ℕ, suc, zero, ◌<◌, ◌≤◌, ◌^◌, Bool, true, false, cond, ltb, eqb, ◌&&◌, List, [], ◌∷◌, ◌++◌, length, slice_get, is_some, Option, Some, None, refl, sym, ap, subst, ◌∙◌, arith, le-ltb, lt-ltb, eq-eqb, append_assoc}
use Rattle.std.specs.Option.{option_map, option_or}
use Rattle.std.proofs.lemmas.Bool.{or_from, and_parts, eqb-true}
use Rattle.tt_span.specs.Time.{max_time}
use Rattle.tt_span.specs.Interval.{Interval}
use Rattle.tt_span.specs.Drift.{Moment}
use Rattle.tt_daemon.specs.Config.{Configuration}
use Rattle.tt_world.specs.Config.{config_at}
use Rattle.tt_world.specs.Life.{Life, life_of, life_at, same_life}
use Rattle.tt_world.specs.Past.{time_of, packets_of, clock_of, moments_of, sends_now}
use Rattle.tt_world.specs.Packet.{machine_of_packet, source_of_packet, bytes_of, is_asked}
use Rattle.tt_world.specs.Bad.{has_source, has_machine, is_request, first_bad, accepted}
use Rattle.tt_world.specs.declared.events.Event.{Event}
use Rattle.tt_world.specs.declared.events.Action.TheVariants.{Send, Answer, Forge, Deliver, Fuse}
use Rattle.tt_world.specs.declared.packets.Packet.{Packet}
use Rattle.tt_world.specs.declared.packets.Packet.TheVariants.{Asked, Answered, Forged}
use Rattle.tt_world.proofs.Histories.Places.{get_back}
use Rattle.tt_world.proofs.Simulation.Waiting.{happens}
use Rattle.tt_world.proofs.Simulation.Lives.{same_life-own}
use Rattle.tt_consistency.specs.Steps.{Kept, Step, Polls, Takes, Fuses, after_steps, kept_at, taken_in, steps_in}
use Rattle.tt_consistency.specs.Timeline.{Happening, Does, Answers, Timed, step_of, steps_told, moment_of, moments_told, last_time, shows_after, last_shown, AreOf, IsForward, IsTimeline, last_place, is_request_in, are_same, is_answer_with, answer_events, take_events, events_at, events_of, IsRunOf}
use Rattle.tt_consistency.proofs.LivingRounds.{goes_on_by-steps}

-- ---- events that are not bad

module _ (configs : List Configuration) (past : List Event) (at : ℕ) (later : time_of past ≤ at) (in_time : at ≤ max_time) where
  time_on : (ltb at (time_of past) || ltb max_time at) ≡ false
  time_on = or_from _ _ (le-ltb at (time_of past) later) (le-ltb max_time at in_time)

  clock_on : (m clock : ℕ) → clock_of past (life_at past m) ≤ clock → clock ≤ max_time → (ltb clock (clock_of past (life_at past m)) || ltb max_time clock) ≡ false
  clock_on m clock on fits = or_from _ _ (le-ltb clock _ on) (le-ltb max_time clock fits)

  goes-send : (m s clock : ℕ) → has_source configs m s ≡ true → clock_of past (life_at past m) ≤ clock → clock ≤ max_time → first_bad configs past (happens at (Send m s clock)) ≡ None
  goes-send m s clock there on fits =
      let t = time_on in
      let c = clock_on m clock on fits in
      rw (t, there, c) refl

  goes-fuse : (m clock : ℕ) → has_machine configs m ≡ true → clock_of past (life_at past m) ≤ clock → clock ≤ max_time → first_bad configs past (happens at (Fuse m clock)) ≡ None
  goes-fuse m clock there on fits =
      let t = time_on in
      let c = clock_on m clock on fits in
      rw (t, there, c) refl

  goes-forge : (m s : ℕ) (payload : List ℕ) → has_source configs m s ≡ true → first_bad configs past (happens at (Forge m s payload)) ≡ None
  goes-forge m s payload there =
      let t = time_on in
      rw (t, there) refl

  goes-answer : (k : ℕ) (span : Interval) → is_request (slice_get (packets_of past) k) ≡ true → first_bad configs past (happens at (Answer k span)) ≡ None
  goes-answer k span asked =
      let t = time_on in
      rw (t, asked) refl

  goes-deliver : (k clock : ℕ) (p : Packet) → slice_get (packets_of past) k ≡ Some p → is_asked p ≡ false
      → clock_of past (life_at past (machine_of_packet p)) ≤ clock → clock ≤ max_time → first_bad configs past (happens at (Deliver k clock)) ≡ None
  goes-deliver k clock p is answers on fits =
      let t = time_on in
      let c = clock_on (machine_of_packet p) clock on fits in
      rw (t, is, answers, c) refl

-- ---- packets that are found

-- a packet that passes a test stands at this place
abbrev pub StandsAt : (Packet → Bool) → List Packet → ℕ → Type 0
StandsAt test packets k = (p : Packet) × (slice_get packets k ≡ Some p) × (test p ≡ true)

first_stands : (test : Packet → Bool) (packet : Packet) (packets : List Packet) (k : ℕ) (b : Bool) → test packet ≡ b → cond b (Some 0) None ≡ Some k → StandsAt test (packet ∷ packets) k
first_stands test packet packets zero true is found = (packet, refl, is)
first_stands test packet packets (suc k) true is found = absurd cc
first_stands test packet packets k false is found = absurd cc

place-later : (test : Packet → Bool) (packet : Packet) (packets : List Packet) (k : ℕ) → ((j : ℕ) → last_place test packets ≡ Some j → StandsAt test packets j)
    → (o : Option ℕ) → last_place test packets ≡ o → option_or (option_map suc o) (cond (test packet) (Some 0) None) ≡ Some k → StandsAt test (packet ∷ packets) k
place-later test packet packets k stands None is found = first_stands test packet packets k (test packet) refl found
place-later test packet packets zero stands (Some j) is found = absurd cc
place-later test packet packets (suc k) stands (Some j) is found =
    let same : j ≡ k = cc in
    stands k (is ∙ ap (λ (n : ℕ). Some n) same)

pub place-stands : (test : Packet → Bool) (packets : List Packet) (k : ℕ) → last_place test packets ≡ Some k → StandsAt test packets k
place-stands test [] k found = absurd cc
place-stands test (packet ∷ packets) k found = place-later test packet packets k (λ j. place-stands test packets j) (last_place test packets) refl found

pub same_bytes : (one other : List ℕ) → are_same one other ≡ true → one ≡ other
same_bytes [] [] is = refl
same_bytes (a ∷ one) (b ∷ other) is =
    let parts = and_parts (eqb a b) (are_same one other) is in
    ap (λ (x : ℕ). x ∷ one) (eqb-true a b parts.0) ∙ ap (λ (xs : List ℕ). b ∷ xs) (same_bytes one other parts.1)
same_bytes [] (b ∷ other) is = absurd cc
same_bytes (a ∷ one) [] is = absurd cc

request-asked : (life : Life) (source nonce : ℕ) (p : Packet) → is_request_in life source nonce p ≡ true → is_asked p ≡ true
request-asked life source nonce (Asked request) is = refl
request-asked life source nonce (Answered answer) is = absurd cc
request-asked life source nonce (Forged machine s payload) is = absurd cc

-- what is known of an answer that was found
pub record IsAnswer (m source : ℕ) (bytes : List ℕ) (p : Packet) : Type 0 where
  pub machine : machine_of_packet p ≡ m
  pub source_is : source_of_packet p ≡ source
  pub bytes_are : bytes_of p ≡ bytes
  pub no_request : is_asked p ≡ false

pub answer-found : (m source : ℕ) (bytes : List ℕ) (p : Packet) → is_answer_with m source bytes p ≡ true → IsAnswer m source bytes p
answer-found m source bytes (Answered answer) is =
    let parts = and_parts (eqb answer.machine m && eqb answer.source source) (are_same (bytes_of (Answered answer)) bytes) is in
    let more = and_parts (eqb answer.machine m) (eqb answer.source source) parts.0 in
    record {
      machine = eqb-true answer.machine m more.0;
      source_is = eqb-true answer.source source more.1;
      bytes_are = same_bytes (bytes_of (Answered answer)) bytes parts.1;
      no_request = refl;
    }
answer-found m source bytes (Asked request) is = absurd cc
answer-found m source bytes (Forged machine s payload) is = absurd cc

-- ---- one more event

module _ (configs : List Configuration) (m : ℕ) (there : m < length configs) (base : List Event) where
  -- the life of the base
  abbrev pub life : Life
  life = life_at base m

  -- a run after the base: no event is bad, the life is the same, and these are its steps and moments; no event is after this time, and the clock shows this
  pub record Reached (past : List Event) (steps : List Step) (moments : List Moment) (time shown : ℕ) : Type 0 where
    pub good : accepted configs past ≡ past
    pub same : life_of past m ≡ life_of base m
    pub steps_are : steps_in past m ≡ steps ++ steps_in base m
    pub moments_are : moments_of past life ≡ moments ++ moments_of base life
    pub by_time : time_of past ≤ time
    pub shows : clock_of past life ≡ shown

  has-source : (s : ℕ) → s < (config_at configs m).sources → has_source configs m s ≡ true
  has-source s named = let a = lt-ltb m (length configs) there in let b = lt-ltb s (config_at configs m).sources named in rw (a, b) refl

  pub kept_good : (past : List Event) (event : Event) → accepted configs past ≡ past → first_bad configs past event ≡ None → accepted configs (event ∷ past) ≡ event ∷ past
  kept_good past event good goes =
      ap (λ (before : List Event). cond (is_some (first_bad configs before event)) before (event ∷ before)) good
      ∙ ap (λ o. cond (is_some o) past (event ∷ past)) goes

  module _ (past : List Event) (steps : List Step) (moments : List Moment) (time shown : ℕ) (reached : Reached past steps moments time shown)
      (at : ℕ) (later : time ≤ at) (in_time : at ≤ max_time) where
    now : time_of past ≤ at
    now = let by = reached.by_time in omega arith

    own_life : life_at past m ≡ life
    own_life = ap (λ (n : ℕ). record { machine = m; number = n }) reached.same

    own : same_life (life_at past m) life ≡ true
    own = subst (λ (l : Life). same_life l life ≡ true) (sym own_life) (same_life-own life)

    clock_shown : (clock : ℕ) → shown ≤ clock → clock_of past (life_at past m) ≤ clock
    clock_shown clock on = subst (λ (l : Life). clock_of past l ≤ clock) (sym own_life) (subst (λ (c : ℕ). c ≤ clock) (sym reached.shows) on)

    reached-send : (s clock : ℕ) → s < (config_at configs m).sources → shown ≤ clock → clock ≤ max_time
        → Reached (happens at (Send m s clock) ∷ past) (Polls s clock ∷ steps) (record { clock = clock; time = at } ∷ moments) at clock
    reached-send s clock named on fits = record {
      good = kept_good past (happens at (Send m s clock)) reached.good (goes-send configs past at now in_time m s clock (has-source s named) (clock_shown clock on) fits);
      same = reached.same;
      steps_are = let e : eqb m m ≡ true = eq-eqb m m refl in rw e (ap (λ (xs : List Step). Polls s clock ∷ xs) reached.steps_are);
      moments_are = rw own (ap (λ (xs : List Moment). record { clock = clock; time = at } ∷ xs) reached.moments_are);
      by_time = omega arith;
      shows = rw own refl;
    }

    reached-fuse : (clock : ℕ) → shown ≤ clock → clock ≤ max_time
        → Reached (happens at (Fuse m clock) ∷ past) (Fuses clock ∷ steps) (record { clock = clock; time = at } ∷ moments) at clock
    reached-fuse clock on fits = record {
      good = kept_good past (happens at (Fuse m clock)) reached.good (goes-fuse configs past at now in_time m clock (lt-ltb m (length configs) there) (clock_shown clock on) fits);
      same = reached.same;
      steps_are = let e : eqb m m ≡ true = eq-eqb m m refl in rw e (ap (λ (xs : List Step). Fuses clock ∷ xs) reached.steps_are);
      moments_are = rw own (ap (λ (xs : List Moment). record { clock = clock; time = at } ∷ xs) reached.moments_are);
      by_time = omega arith;
      shows = rw own refl;
    }

    reached-answer : (k : ℕ) (span : Interval) → is_request (slice_get (packets_of past) k) ≡ true → Reached (happens at (Answer k span) ∷ past) steps moments at shown
    reached-answer k span asked = record {
      good = kept_good past (happens at (Answer k span)) reached.good (goes-answer configs past at now in_time k span asked);
      same = reached.same;
      steps_are = reached.steps_are;
      moments_are = reached.moments_are;
      by_time = omega arith;
      shows = reached.shows;
    }

    reached-forge : (s : ℕ) (bytes : List ℕ) → s < (config_at configs m).sources → Reached (happens at (Forge m s bytes) ∷ past) steps moments at shown
    reached-forge s bytes named = record {
      good = kept_good past (happens at (Forge m s bytes)) reached.good (goes-forge configs past at now in_time m s bytes (has-source s named));
      same = reached.same;
      steps_are = reached.steps_are;
      moments_are = reached.moments_are;
      by_time = omega arith;
      shows = reached.shows;
    }

    reached-deliver : (k clock s : ℕ) (bytes : List ℕ) (p : Packet) → slice_get (packets_of past) k ≡ Some p → IsAnswer m s bytes p → shown ≤ clock → clock ≤ max_time
        → Reached (happens at (Deliver k clock) ∷ past) (Takes s bytes clock ∷ steps) (record { clock = clock; time = at } ∷ moments) at clock
    reached-deliver k clock s bytes p is answer on fits =
        let mine : clock_of past (life_at past (machine_of_packet p)) ≤ clock = subst (λ (n : ℕ). clock_of past (life_at past n) ≤ clock) (sym answer.machine) (clock_shown clock on) in
        let own_packet : same_life (life_at past (machine_of_packet p)) life ≡ true = subst (λ (n : ℕ). same_life (life_at past n) life ≡ true) (sym answer.machine) own in
        let to_me : eqb (machine_of_packet p) m ≡ true = eq-eqb (machine_of_packet p) m answer.machine in
        record {
          good = kept_good past (happens at (Deliver k clock)) reached.good (goes-deliver configs past at now in_time k clock p is answer.no_request mine fits);
          same = reached.same;
          steps_are =
              ap (λ (o : Option Packet). taken_in m clock o ++ steps_in past m) is
              ∙ ap (λ (b : Bool). cond b (Takes (source_of_packet p) (bytes_of p) clock ∷ []) [] ++ steps_in past m) to_me
              ∙ ap (λ (source : ℕ). Takes source (bytes_of p) clock ∷ steps_in past m) answer.source_is
              ∙ ap (λ (b : List ℕ). Takes s b clock ∷ steps_in past m) answer.bytes_are
              ∙ ap (λ (xs : List Step). Takes s bytes clock ∷ xs) reached.steps_are;
          moments_are = rw (is, own_packet) (ap (λ (xs : List Moment). record { clock = clock; time = at } ∷ xs) reached.moments_are);
          by_time = omega arith;
          shows = rw (is, own_packet) refl;
        }

  -- ---- one more happening

  module _ (past : List Event) (steps : List Step) (moments : List Moment) (time shown : ℕ) (reached : Reached past steps moments time shown)
      (at : ℕ) (later : time ≤ at) (in_time : at ≤ max_time) where
    -- bytes that were made up
    forged : (s clock : ℕ) (bytes : List ℕ) → s < (config_at configs m).sources → shown ≤ clock → clock ≤ max_time
        → Reached (take_events m at s bytes clock (length (packets_of past)) None ++ past) (Takes s bytes clock ∷ steps) (record { clock = clock; time = at } ∷ moments) at clock
    forged s clock bytes named on fits =
        reached-deliver (happens at (Forge m s bytes) ∷ past) steps moments at shown (reached-forge past steps moments time shown reached at later in_time s bytes named) at (omega arith) in_time
        (length (packets_of past)) clock s bytes (Forged m s bytes) (get_back (packets_of past) (Forged m s bytes ∷ []) (length (packets_of past)) 0 (omega arith))
        (record { machine = refl; source_is = refl; bytes_are = refl; no_request = refl }) on fits

    took : (s clock : ℕ) (bytes : List ℕ) (o : Option ℕ) → last_place (is_answer_with m s bytes) (packets_of past) ≡ o → s < (config_at configs m).sources → shown ≤ clock → clock ≤ max_time
        → Reached (take_events m at s bytes clock (length (packets_of past)) o ++ past) (Takes s bytes clock ∷ steps) (record { clock = clock; time = at } ∷ moments) at clock
    took s clock bytes None is named on fits = forged s clock bytes named on fits
    took s clock bytes (Some k) is named on fits =
        let (p, stands, passes) = place-stands (is_answer_with m s bytes) (packets_of past) k is in
        reached-deliver past steps moments time shown reached at later in_time k clock s bytes p stands (answer-found m s bytes p passes) on fits

    answered : (source nonce : ℕ) (span : Interval) (o : Option ℕ) → last_place (is_request_in (life_at past m) source nonce) (packets_of past) ≡ o
        → Reached (answer_events at span o ++ past) steps moments at shown
    answered source nonce span None is = record {
      good = reached.good;
      same = reached.same;
      steps_are = reached.steps_are;
      moments_are = reached.moments_are;
      by_time = now past steps moments time shown reached at later in_time;
      shows = reached.shows;
    }
    answered source nonce span (Some k) is =
        let (p, stands, passes) = place-stands (is_request_in (life_at past m) source nonce) (packets_of past) k is in
        reached-answer past steps moments time shown reached at later in_time k span
        (ap is_request stands ∙ request-asked (life_at past m) source nonce p passes)

    happened : (happening : Happening) → AreOf (config_at configs m).sources (step_of happening ++ steps) → IsForward shown happening
        → Reached (events_at past m at happening ++ past) (step_of happening ++ steps) (moment_of at happening ++ moments) at (shows_after happening shown)
    happened (Does (Polls s clock)) named on = reached-send past steps moments time shown reached at later in_time s clock named.0 on.0 on.1
    happened (Does (Takes s bytes clock)) named on = took s clock bytes (last_place (is_answer_with m s bytes) (packets_of past)) refl named.0 on.0 on.1
    happened (Does (Fuses clock)) named on = reached-fuse past steps moments time shown reached at later in_time clock on.0 on.1
    happened (Answers source nonce span) named on = answered source nonce span (last_place (is_request_in (life_at past m) source nonce) (packets_of past)) refl

  pub named_before : (happening : Happening) (steps : List Step) → AreOf (config_at configs m).sources (step_of happening ++ steps) → AreOf (config_at configs m).sources steps
  named_before (Does step) steps named = named.1
  named_before (Answers source nonce span) steps named = named

  -- a whole timeline
  pub told : accepted configs base ≡ base → (timeline : List Timed) → AreOf (config_at configs m).sources (steps_told timeline) → IsTimeline (time_of base) (clock_of base life) timeline
      → Reached (events_of base m timeline ++ base) (steps_told timeline) (moments_told timeline) (last_time (time_of base) timeline) (last_shown (clock_of base life) timeline)
  told good [] named is = record { good = good; same = refl; steps_are = refl; moments_are = refl; by_time = omega arith; shows = refl }
  told good (timed ∷ timeline) named is =
      let past = events_of base m timeline ++ base in
      subst (λ (events : List Event). Reached events (steps_told (timed ∷ timeline)) (moments_told (timed ∷ timeline)) timed.at (last_shown (clock_of base life) (timed ∷ timeline)))
      (sym (append_assoc (events_at past m timed.at timed.happening) (events_of base m timeline) base))
      (happened past (steps_told timeline) (moments_told timeline) (last_time (time_of base) timeline) (last_shown (clock_of base life) timeline)
      (told good timeline (named_before timed.happening (steps_told timeline) named) is.3)
      timed.at is.0 is.1 timed.happening named is.2)

pub timeline-is_run : (configs : List Configuration) (m : ℕ) (base : List Event) (timeline : List Timed) → m < length configs → accepted configs base ≡ base
    → AreOf (config_at configs m).sources (steps_told timeline) → IsTimeline (time_of base) (clock_of base (life_at base m)) timeline
    → IsRunOf configs m base (events_of base m timeline) (steps_told timeline) (moments_told timeline)
timeline-is_run configs m base timeline there good named is =
    let reached = told configs m there base good timeline named is in
    record { good = reached.good; same_life = reached.same; steps_are = reached.steps_are; moments_are = reached.moments_are }

-- a run of the steps of a course leaves what the course left
pub run-leaves : (configs : List Configuration) (m : ℕ) (base events : List Event) (steps : List Step) (moments : List Moment) (from to : Kept)
    → IsRunOf configs m base events steps moments → kept_at configs base m ≡ from → to ≡ after_steps from steps → sends_now (events ++ base) m < 2 ^ 64
    → kept_at configs (events ++ base) m ≡ to
run-leaves configs m base events steps moments from to run begins made room =
    goes_on_by-steps configs base events m steps run.good run.same_life run.steps_are room
    ∙ ap (λ (kept : Kept). after_steps kept steps) begins
    ∙ sym made
