-- What a daemon publishes held the true time, if its timeline keeps the assumptions of the model.
use Rattle.std.proofs.Common.{◌≡◌, ℕ, List, [], ◌∷◌, ◌++◌, Option, Some, None, inl, inr, ap, subst, sym, ◌∙◌}
use Rattle.std.specs.List.{AllByRecursion}
use Rattle.tt_span.specs.Drift.{Moment, KeepsDrift}
use Rattle.tt_span.specs.Interval.{Interval}
use Rattle.tt_daemon.specs.Config.{Configuration, IsConfiguration}
use Rattle.tt_publish.specs.declared.readings.FusedSpan.{FusedSpan}
use Rattle.tt_world.specs.Assumptions.{FewLie}
use Rattle.tt_world.specs.Config.{config_at}
use Rattle.tt_world.specs.Headline.{IsAction}
use Rattle.tt_world.specs.Life.{Life, life_at}
use Rattle.tt_world.specs.Past.{packets_of, moments_of}
use Rattle.tt_world.specs.Publications.{publications_of}
use Rattle.tt_world.specs.declared.events.Event.{Event}
use Rattle.tt_world.proofs.Histories.FusionTimes.{WasRight, IsKept, were_right, few_lie_in}
use Rattle.tt_world.proofs.Histories.Judging.{AreGood, good_accepted}
use Rattle.tt_world.proofs.Histories.Places.{IsIn, all_append, all_weaker}
use Rattle.tt_consistency.specs.Steps.{Step, Polls, Takes, Fuses, Kept, kept_at}
use Rattle.tt_consistency.specs.Timeline.{Happening, Does, Answers, Timed, IsAmong, HeldTrueTime, IsOfTime, AreOfTime, last_place, is_request_in, is_answer_with, answer_events, take_events, events_at, events_of, IsRunOf}

-- the events are such as can be
abbrev pub AreActions : List Event → Type 0
AreActions events = AllByRecursion (λ (event : Event). IsAction event.action) events

answer_actions : (at : ℕ) (span : Interval) (o : Option ℕ) → IsOfTime (Answers 0 0 span) → AreActions (answer_events at span o)
answer_actions at span (Some packet) valid = (valid, tt)
answer_actions at span None valid = tt

take_actions : (m at source clock count : ℕ) (bytes : List ℕ) (o : Option ℕ) → AreActions (take_events m at source bytes clock count o)
take_actions m at source clock count bytes (Some packet) = (tt, tt)
take_actions m at source clock count bytes None = (tt, (tt, tt))

actions_at : (past : List Event) (m at : ℕ) (happening : Happening) → IsOfTime happening → AreActions (events_at past m at happening)
actions_at past m at (Does (Polls source clock)) valid = (tt, tt)
actions_at past m at (Does (Takes source bytes clock)) valid = take_actions m at source clock _ bytes (last_place (is_answer_with m source bytes) (packets_of past))
actions_at past m at (Does (Fuses clock)) valid = (tt, tt)
actions_at past m at (Answers source nonce span) valid = answer_actions at span (last_place (is_request_in (life_at past m) source nonce) (packets_of past)) valid

actions_of : (base : List Event) (m : ℕ) (timeline : List Timed) → AreOfTime timeline → AreActions (events_of base m timeline)
actions_of base m [] valid = tt
actions_of base m (timed ∷ timeline) valid =
    all_append _ (events_at (events_of base m timeline ++ base) m timed.at timed.happening) (events_of base m timeline)
    (actions_at (events_of base m timeline ++ base) m timed.at timed.happening valid.0) (actions_of base m timeline valid.1)

among : (moment : Moment) (moments : List Moment) → IsIn moment moments → IsAmong moment moments
among moment [] is = absurd is
among moment (other ∷ moments) (inl same) = inl same
among moment (other ∷ moments) (inr later) = inr (among moment moments later)

held_of : (past : List Event) (life : Life) (moments : List Moment) → moments_of past life ≡ moments → (publication : FusedSpan) → WasRight past life publication → HeldTrueTime moments publication
held_of past life moments are publication was = record {
  time = was.fused_at;
  moment = among (record { clock = publication.clock; time = was.fused_at }) moments (subst (IsIn (record { clock = publication.clock; time = was.fused_at })) are was.moment);
  held = was.held;
}

-- the life of the machine keeps the assumptions
pub kept-told : (configs : List Configuration) (m : ℕ) (base : List Event) (timeline : List Timed) (steps : List Step) (moments : List Moment) → IsRunOf configs m base (events_of base m timeline) steps moments → AreOfTime timeline → AreActions base
    → KeepsDrift (config_at configs m).drift (moments ++ moments_of base (life_at base m)) → FewLie configs (events_of base m timeline ++ base)
    → IsKept configs (events_of base m timeline ++ base) (life_at base m)
kept-told configs m base timeline steps moments run valid valid_base drift few =
    let past = events_of base m timeline ++ base in
    record {
      good = subst (AreGood configs) run.good (good_accepted configs past);
      valid = all_append _ (events_of base m timeline) base (actions_of base m timeline valid) valid_base;
      drift = subst (KeepsDrift (config_at configs m).drift) (sym run.moments_are) drift;
      few = few_lie_in configs past (life_at base m) few;
    }

-- and its publications are what the daemon published
pub published-told : (configs : List Configuration) (m : ℕ) (base : List Event) (timeline : List Timed) (steps : List Step) (moments : List Moment) (to : Kept) → IsRunOf configs m base (events_of base m timeline) steps moments
    → kept_at configs (events_of base m timeline ++ base) m ≡ to → publications_of (config_at configs m) (events_of base m timeline ++ base) (life_at base m) ≡ to.published
published-told configs m base timeline steps moments to run leaves =
    let past = events_of base m timeline ++ base in
    let own : life_at past m ≡ life_at base m = ap (λ (n : ℕ). record { machine = m; number = n }) run.same_life in
    ap (publications_of (config_at configs m) past) (sym own) ∙ ap (λ (kept : Kept). kept.published) leaves

pub publications-held : (configs : List Configuration) (m : ℕ) (base : List Event) (timeline : List Timed) (steps : List Step) (moments : List Moment) (to : Kept)
    → IsRunOf configs m base (events_of base m timeline) steps moments → kept_at configs (events_of base m timeline ++ base) m ≡ to
    → IsConfiguration (config_at configs m) → AreOfTime timeline → AreActions base
    → KeepsDrift (config_at configs m).drift (moments ++ moments_of base (life_at base m)) → FewLie configs (events_of base m timeline ++ base)
    → AllByRecursion (HeldTrueTime (moments ++ moments_of base (life_at base m))) to.published
publications-held configs m base timeline steps moments to run leaves configuration valid valid_base drift few =
    let past = events_of base m timeline ++ base in
    let life = life_at base m in
    let right : AllByRecursion (λ (p : FusedSpan). WasRight past life p) (publications_of (config_at configs m) past life) =
    were_right configs past life configuration (kept-told configs m base timeline steps moments run valid valid_base drift few) in
    subst (AllByRecursion (HeldTrueTime (moments ++ moments_of base life))) (published-told configs m base timeline steps moments to run leaves)
    (all_weaker (λ (p : FusedSpan). WasRight past life p) (HeldTrueTime (moments ++ moments_of base life)) (held_of past life (moments ++ moments_of base life) run.moments_are)
    (publications_of (config_at configs m) past life) right)
