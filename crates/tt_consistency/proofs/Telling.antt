-- What a daemon that begins a life publishes held the true time, where few sources are faulty, told without events.
use Rattle.std.proofs.Common.{◌≡◌, ℕ, suc, zero, ◌+◌, ◌-◌, ◌^◌, ◌<◌, ◌≤◌, Bool, true, false, cond, List, [], ◌∷◌, ◌++◌, length, replicate, Option, Some, None, inl, inr, sym, subst, ◌∙◌, arith, append_assoc}
use Rattle.std.specs.List.{AllByRecursion}
use Rattle.std.proofs.lemmas.List.{get_or-replicate, length-replicate}
use Rattle.tt_span.specs.Drift.{Moment, AgreesWith, KeepsDrift}
use Rattle.tt_span.specs.Interval.{Interval}
use Rattle.tt_span.specs.Time.{max_time}
use Rattle.tt_publish.specs.declared.readings.FusedSpan.{FusedSpan}
use Rattle.tt_daemon.specs.Config.{Configuration, IsConfiguration, no_configuration}
use Rattle.tt_world.specs.Assumptions.{FewLie}
use Rattle.tt_world.specs.Config.{config_at}
use Rattle.tt_world.specs.Headline.{IsAction}
use Rattle.tt_world.specs.Life.{Life, life_at, is_of}
use Rattle.tt_world.specs.Past.{time_of, clock_of, packets_of, moments_of, sends_of, sends_now}
use Rattle.tt_world.specs.declared.events.Event.{Event}
use Rattle.tt_world.proofs.Histories.Places.{all_weaker}
use Rattle.tt_consistency.specs.Faulty.{FewFaulty}
use Rattle.tt_consistency.specs.Steps.{Kept, Polls, Takes, Fuses, kept_at, new_kept, after_steps}
use Rattle.tt_consistency.specs.Timeline.{Happening, Does, Answers, Timed, steps_told, moments_told, last_time, last_shown, shows_after, AreOf, AreOfTime, IsForward, IsTimeline, IsRunOf, IsAmong, HeldTrueTime, BeginsLife, last_place, is_request_in, is_answer_with, answer_events, take_events, events_at, events_of, restarts_of}
use Rattle.tt_consistency.proofs.Assuming.{lie-from_told}
use Rattle.tt_consistency.proofs.Beginning.{begins-life}
use Rattle.tt_consistency.proofs.HoldingRounds.{publications-held}
use Rattle.tt_consistency.proofs.Running.{timeline-is_run, run-leaves}

-- ---- a timeline that begins later

later_time : (a b : ℕ) (timeline : List Timed) → a ≤ b → last_time a timeline ≤ last_time b timeline
later_time a b [] h = h
later_time a b (timed ∷ timeline) h = omega arith

shown_by : (a b : ℕ) (happening : Happening) → a ≤ b → shows_after happening a ≤ shows_after happening b
shown_by a b (Does step) h = omega arith
shown_by a b (Answers source nonce span) h = h

later_shown : (a b : ℕ) (timeline : List Timed) → a ≤ b → last_shown a timeline ≤ last_shown b timeline
later_shown a b [] h = h
later_shown a b (timed ∷ timeline) h = shown_by (last_shown a timeline) (last_shown b timeline) timed.happening (later_shown a b timeline h)

forward_from : (a b : ℕ) (happening : Happening) → a ≤ b → IsForward b happening → IsForward a happening
forward_from a b (Does step) h on = (omega (arith, on.0), on.1)
forward_from a b (Answers source nonce span) h on = tt

timeline-from : (begun later shown after : ℕ) (timeline : List Timed) → begun ≤ later → shown ≤ after → IsTimeline later after timeline → IsTimeline begun shown timeline
timeline-from begun later shown after [] t s is = tt
timeline-from begun later shown after (timed ∷ timeline) t s is =
    let times = later_time begun later timeline t in (
      omega (arith, times, is.0),
      is.1,
      forward_from (last_shown shown timeline) (last_shown after timeline) timed.happening (later_shown shown after timeline s) is.2,
      timeline-from begun later shown after timeline t s is.3,
    )

-- ---- how many polls

one_poll : (b : Bool) (n : ℕ) → cond b (n + 1) n ≤ n + 1
one_poll true n = omega arith
one_poll false n = omega arith

take_sends : (past : List Event) (m at source clock count : ℕ) (bytes : List ℕ) (o : Option ℕ) (life : Life) → sends_of (take_events m at source bytes clock count o ++ past) life ≤ sends_of past life + 1
take_sends past m at source clock count bytes None life = omega arith
take_sends past m at source clock count bytes (Some k) life = omega arith

answer_sends : (past : List Event) (at : ℕ) (span : Interval) (o : Option ℕ) (life : Life) → sends_of (answer_events at span o ++ past) life ≤ sends_of past life + 1
answer_sends past at span None life = omega arith
answer_sends past at span (Some k) life = omega arith

event_sends : (past : List Event) (m at : ℕ) (happening : Happening) (life : Life) → sends_of (events_at past m at happening ++ past) life ≤ sends_of past life + 1
event_sends past m at (Does (Polls source clock)) life = one_poll (is_of past life m) (sends_of past life)
event_sends past m at (Does (Takes source bytes clock)) life = take_sends past m at source clock (length (packets_of past)) bytes (last_place (is_answer_with m source bytes) (packets_of past)) life
event_sends past m at (Does (Fuses clock)) life = omega arith
event_sends past m at (Answers source nonce span) life = answer_sends past at span (last_place (is_request_in (life_at past m) source nonce) (packets_of past)) life

told_sends : (base : List Event) (m : ℕ) (timeline : List Timed) (life : Life) → sends_of (events_of base m timeline ++ base) life ≤ sends_of base life + length timeline
told_sends base m [] life = omega arith
told_sends base m (timed ∷ timeline) life =
    let past = events_of base m timeline ++ base in
    let rest : sends_of past life ≤ sends_of base life + length timeline = told_sends base m timeline life in
    let one : sends_of ((events_at past m timed.at timed.happening ++ events_of base m timeline) ++ base) life ≤ sends_of past life + 1 =
    subst (λ (events : List Event). sends_of events life ≤ sends_of past life + 1) (sym (append_assoc (events_at past m timed.at timed.happening) (events_of base m timeline) base))
    (event_sends past m timed.at timed.happening life) in
    omega arith

-- ---- moments that are all one

-- each is this one
abbrev AreOne : Moment → List Moment → Type 0
AreOne one moments = AllByRecursion (λ (moment : Moment). moment ≡ one) moments

all_of_one : (P : Moment → Type 0) (one : Moment) (moments : List Moment) → P one → AreOne one moments → AllByRecursion P moments
all_of_one P one [] h are = tt
all_of_one P one (moment ∷ moments) h are = (subst P (sym are.0) h, all_of_one P one moments h are.1)

all_swapped : (P : Moment → Type 0) (one : Moment) (xs moments : List Moment) → AllByRecursion P (xs ++ one ∷ []) → AreOne one moments → AllByRecursion P (xs ++ moments)
all_swapped P one [] moments all are = all_of_one P one moments all.0 are
all_swapped P one (x ∷ xs) moments all are = (all.0, all_swapped P one xs moments all.1 are)

agrees_alone : (ppm : ℕ) (one : Moment) → AgreesWith ppm one one
agrees_alone ppm one = omega arith

one_keeps : (ppm : ℕ) (one : Moment) (moments : List Moment) → AreOne one moments → KeepsDrift ppm moments
one_keeps ppm one [] are = tt
one_keeps ppm one (moment ∷ moments) are =
    (subst (λ (x : Moment). AllByRecursion (AgreesWith ppm x) moments) (sym are.0) (all_of_one (AgreesWith ppm one) one moments (agrees_alone ppm one) are.1), one_keeps ppm one moments are.1)

keeps_swapped : (ppm : ℕ) (one : Moment) (xs moments : List Moment) → KeepsDrift ppm (xs ++ one ∷ []) → AreOne one moments → KeepsDrift ppm (xs ++ moments)
keeps_swapped ppm one [] moments keeps are = one_keeps ppm one moments are
keeps_swapped ppm one (x ∷ xs) moments keeps are = (all_swapped (AgreesWith ppm x) one xs moments keeps.0 are, keeps_swapped ppm one xs moments keeps.1 are)

among_one : (moment one : Moment) (moments : List Moment) → AreOne one moments → IsAmong moment moments → IsAmong moment (one ∷ [])
among_one moment one [] are is = absurd is
among_one moment one (other ∷ moments) are (inl same) = inl (sym are.0 ∙ same)
among_one moment one (other ∷ moments) are (inr later) = among_one moment one moments are.1 later

among_swapped : (moment one : Moment) (xs moments : List Moment) → AreOne one moments → IsAmong moment (xs ++ moments) → IsAmong moment (xs ++ one ∷ [])
among_swapped moment one [] moments are is = among_one moment one moments are is
among_swapped moment one (x ∷ xs) moments are (inl same) = inl same
among_swapped moment one (x ∷ xs) moments are (inr later) = inr (among_swapped moment one xs moments are later)

held_swapped : (one : Moment) (xs moments : List Moment) → AreOne one moments → (publication : FusedSpan) → HeldTrueTime (xs ++ moments) publication → HeldTrueTime (xs ++ one ∷ []) publication
held_swapped one xs moments are publication was = record {
  time = was.time;
  moment = among_swapped (record { clock = publication.clock; time = was.time }) one xs moments are was.moment;
  held = was.held;
}

-- ---- what is published

-- what a timeline is in the model, after a base, if it keeps the assumptions
pub record IsToldAfter (configs : List Configuration) (m : ℕ) (timeline : List Timed) (to : Kept) (base : List Event) : Type 0 where
  pub run : IsRunOf configs m base (events_of base m timeline) (steps_told timeline) (moments_told timeline)
  pub leaves : kept_at configs (events_of base m timeline ++ base) m ≡ to
  pub drift : KeepsDrift (config_at configs m).drift (moments_told timeline ++ moments_of base (life_at base m))
  pub few : FewLie configs (events_of base m timeline ++ base)

module _ (m number at clock : ℕ) (timeline : List Timed) (to : Kept) where
  -- the moment at which the life begins
  abbrev first : Moment
  first = record { clock = clock; time = at }

  -- all that is assumed of a timeline of a machine of this set-up, and what follows
  abbrev pub Follows : Configuration → Type 0 → Type 0
  Follows config Conclusion =
      IsTimeline at clock timeline → length timeline < 2 ^ 64 → AreOf config.sources (steps_told timeline) → to ≡ after_steps (new_kept config m number) (steps_told timeline) → IsConfiguration config → AreOfTime timeline →
      KeepsDrift config.drift (moments_told timeline ++ first ∷ []) → FewFaulty config (record { machine = m; number = number }) timeline → Conclusion

  -- each publication held the true time
  abbrev pub Holding : Configuration → Type 0
  Holding config = Follows config (AllByRecursion (HeldTrueTime (moments_told timeline ++ first ∷ [])) to.published)

  pub life-told : (configs : List Configuration) (base : List Event) → m < length configs → BeginsLife configs m number at clock base → Follows (config_at configs m) (IsToldAfter configs m timeline to base)
  life-told configs base there begins timeline_on short named made configuration valid drift few =
      let is : IsTimeline (time_of base) (clock_of base (life_at base m)) timeline = timeline-from (time_of base) at (clock_of base (life_at base m)) clock timeline begins.by_time begins.by_clock timeline_on in
      let run = timeline-is_run configs m base timeline there begins.good named is in
      let sent : sends_of (events_of base m timeline ++ base) (life_at base m) < 2 ^ 64 = omega (arith, told_sends base m timeline (life_at base m), begins.none_polled) in
      let room : sends_now (events_of base m timeline ++ base) m < 2 ^ 64 = subst (λ (n : ℕ). sends_of (events_of base m timeline ++ base) (record { machine = m; number = n }) < 2 ^ 64) (sym run.same_life) sent in
      record {
        run = run;
        leaves = run-leaves configs m base (events_of base m timeline) (steps_told timeline) (moments_told timeline) (new_kept (config_at configs m) m number) to run begins.as_new made room;
        drift = keeps_swapped (config_at configs m).drift first (moments_told timeline) (moments_of base (life_at base m)) drift begins.one_moment;
        few = lie-from_told configs m number at clock base timeline there begins named is room few;
      }

  pub life-holds : (configs : List Configuration) (base : List Event) → m < length configs → BeginsLife configs m number at clock base → AllByRecursion (λ event. IsAction event.action) base → Holding (config_at configs m)
  life-holds configs base there begins actions timeline_on short named made configuration valid drift few =
      let told = life-told configs base there begins timeline_on short named made configuration valid drift few in
      all_weaker (HeldTrueTime (moments_told timeline ++ moments_of base (life_at base m))) (HeldTrueTime (moments_told timeline ++ first ∷ []))
      (held_swapped first (moments_told timeline) (moments_of base (life_at base m)) begins.one_moment) to.published
      (publications-held configs m base timeline (steps_told timeline) (moments_told timeline) to told.run told.leaves configuration valid actions told.drift told.few)

restart_actions : (m at clock lives : ℕ) → AllByRecursion (λ (event : Event). IsAction event.action) (restarts_of m at clock lives)
restart_actions m at clock zero = tt
restart_actions m at clock (suc n) = (tt, restart_actions m at clock n)

-- what is claimed after every base at which a life begins holds of a machine that has restarted so often, among others of its set-up
pub for_daemon : (config : Configuration) (m at clock lives : ℕ) (Claim : Configuration → Type 0)
    → ((configs : List Configuration) (base : List Event) → m < length configs → BeginsLife configs m (lives + 1) at clock base → AllByRecursion (λ event. IsAction event.action) base → Claim (config_at configs m))
    → at ≤ max_time → clock ≤ max_time → lives < 2 ^ 64 - 1 → Claim config
for_daemon config m at clock lives Claim claimed in_time fits few =
    let configs = replicate (m + 1) config in
    let there : m < length configs = omega (arith, length-replicate {A = Configuration} (m + 1) config) in
    subst Claim (get_or-replicate (m + 1) m config no_configuration (omega arith))
    (claimed configs (restarts_of m at clock lives) there (begins-life configs m at clock lives there in_time fits few) (restart_actions m at clock lives))

pub daemon-holds : (config : Configuration) (m at clock lives : ℕ) (timeline : List Timed) (to : Kept) → at ≤ max_time → clock ≤ max_time → lives < 2 ^ 64 - 1
    → Holding m (lives + 1) at clock timeline to config
daemon-holds config m at clock lives timeline to = for_daemon config m at clock lives (Holding m (lives + 1) at clock timeline to) (life-holds m (lives + 1) at clock timeline to)
