-- What each machine has published: it held the true time.
use Rattle.std.proofs.Common.{◌≡◌, ℕ, ◌≤◌, Bool, true, false, cond, List, [], ◌∷◌, Option, Some, None, Result, Ok, Err, inl, refl, ap, subst, sym, ◌∙◌, arith}
use Rattle.std.specs.Prelude.{IfSome}
use Rattle.std.specs.List.{AllByRecursion}
use Rattle.tt_span.specs.Interval.{Holds}
use Rattle.tt_span.specs.Drift.{Moment, KeepsDrift}
use Rattle.tt_world.proofs.Simulation.Lives.{same_life-true}
use Rattle.tt_world.specs.Life.{Life, life_at, is_of}
use Rattle.tt_world.specs.declared.events.Event.{Event}
use Rattle.tt_world.specs.declared.events.Action.{Action}
use Rattle.tt_world.specs.declared.events.Action.TheVariants.{Fuse}
use Rattle.tt_publish.specs.declared.readings.FusedSpan.{FusedSpan}
use Rattle.tt_daemon.specs.Config.{Configuration, IsConfiguration}
use Rattle.tt_world.specs.Config.{config_at}
use Rattle.tt_world.specs.Past.{clock_reading, time_of, clock_of, moment_at, moments_of}
use Rattle.tt_world.specs.Publications.{fusion_of, one_if_made, fuses_at, published_at, publications_of}
use Rattle.tt_world.specs.Assumptions.{false_count, HasFewFalse, FewLie}
use Rattle.tt_world.specs.Headline.{IsAction}
use Rattle.tt_world.specs.Meeting.{HasFewFalseIn, FewLieIn}
use Rattle.tt_world.proofs.Histories.Places.{IsIn, all_append, all_weaker}
use Rattle.tt_world.proofs.Histories.Ageing.{drift_kept_before}
use Rattle.tt_world.proofs.Histories.Judging.{IsGood, AreGood}
use Rattle.tt_world.proofs.Histories.Clocks.{reading_on, IsReading, reading_of, clock_on, moment_stays}
use Rattle.tt_world.proofs.Histories.Fusing.{true_time_possible, made_is_fusion}

-- a publication of machine life held the true time when it was made
pub record WasRight (past : List Event) (life : Life) (publication : FusedSpan) : Type 0 where
  pub fused_at : ℕ
  pub moment : IsIn (record { clock = publication.clock; time = fused_at }) (moments_of past life)
  pub by_now : fused_at ≤ time_of past
  pub clock_by_now : publication.clock ≤ clock_of past life
  pub held : Holds publication.span fused_at

was_right_stays : (configs : List Configuration) (past : List Event) (event : Event) (life : Life) (publication : FusedSpan) → IsGood configs past event → WasRight past life publication → WasRight (event ∷ past) life publication
was_right_stays configs past event life publication good was =
    let on : time_of past ≤ event.at = good.not_before in
    let clock : clock_of past life ≤ clock_of (event ∷ past) life = clock_on configs past event life good in
    record {
      fused_at = was.fused_at;
      moment = moment_stays past event life (record { clock = publication.clock; time = was.fused_at }) was.moment;
      by_now = omega (arith, was.by_now);
      clock_by_now = omega (arith, was.clock_by_now);
      held = was.held;
    }

some_if : (b : Bool) (clock other : ℕ) → cond b (Some clock) None ≡ Some other → (b ≡ true) × (clock ≡ other)
some_if true clock other h = (refl, cc)
some_if false clock other h = absurd cc

-- an event that fuses in a life reads its clock
reads_when_fused : (past : List Event) (life : Life) (action : Action) (clock : ℕ) → fuses_at past life action ≡ Some clock → clock_reading past action ≡ reading_on life clock
reads_when_fused past life (Fuse machine c) clock h =
    let parts = some_if (is_of past life machine) c clock h in
    ap (λ (k : Life). reading_on k c) (same_life-true (life_at past machine) life parts.0) ∙ ap (λ (k : ℕ). reading_on life k) parts.1
reads_when_fused past life _ clock h = absurd cc

-- ---- what is assumed of all lives holds of one

module _ (configs : List Configuration) (past : List Event) (life : Life) where
  -- no more statements of a life are false than may be
  abbrev HasFew : Life → Type 0
  HasFew k = false_count (config_at configs k.machine) past k ≤ (config_at configs k.machine).faulty

  few_if_fused : (b : Bool) (machine clock : ℕ) → is_of past life machine ≡ b → HasFew (life_at past machine) → IfSome (cond b (Some clock) None) (λ _. HasFew life)
  few_if_fused true machine clock is few = subst HasFew (same_life-true (life_at past machine) life is) few
  few_if_fused false machine clock is few = tt

  few_false_in : (at : ℕ) (action : Action) → HasFewFalse configs past action → HasFewFalseIn (config_at configs life.machine) past life (record { at = at; action = action })
  few_false_in at (Fuse machine clock) few = few_if_fused (is_of past life machine) machine clock refl few
  few_false_in at _ few = tt

pub few_lie_in : (configs : List Configuration) (past : List Event) (life : Life) → FewLie configs past → FewLieIn (config_at configs life.machine) past life
few_lie_in configs [] life few = tt
few_lie_in configs (event ∷ past) life few = (few_false_in configs past life event.at event.action few.0, few_lie_in configs past life few.1)

-- ---- publications

-- the premises of a run up to its last event, for machine life
pub record IsKept (configs : List Configuration) (past : List Event) (life : Life) : Type 0 where
  pub good : AreGood configs past
  pub valid : AllByRecursion (λ (e : Event). IsAction e.action) past
  pub drift : KeepsDrift (config_at configs life.machine).drift (moments_of past life)
  pub few : FewLieIn (config_at configs life.machine) past life

pub kept_before : (configs : List Configuration) (past : List Event) (event : Event) (life : Life) → IsKept configs (event ∷ past) life → IsKept configs past life
kept_before configs past event life kept = record {
  good = kept.good.1;
  valid = kept.valid.1;
  drift = drift_kept_before (config_at configs life.machine).drift (moment_at life event.at (clock_reading past event.action)) (moments_of past life) kept.drift;
  few = kept.few.1;
}

-- an event publishes this: it reads the clock then, and the span holds its true time
pub record IsMadeNow (past : List Event) (event : Event) (life : Life) (publication : FusedSpan) : Type 0 where
  pub reading : IsReading past event life publication.clock
  pub held : Holds publication.span event.at

pub made_now : (configs : List Configuration) (past : List Event) (event : Event) (life : Life) (clock : ℕ) (publication : FusedSpan) → IsConfiguration (config_at configs life.machine) → IsKept configs (event ∷ past) life →
    fuses_at past life event.action ≡ Some clock → fusion_of (config_at configs life.machine) past life clock ≡ Ok publication → IsMadeNow past event life publication
made_now configs past event life clock publication configuration kept fuses h =
    let reads = reads_when_fused past life event.action clock fuses in
    let few = subst (λ (o : Option ℕ). IfSome o (λ _. false_count (config_at configs life.machine) past life ≤ (config_at configs life.machine).faulty)) fuses kept.few.0 in
    let possible = true_time_possible configs past event (config_at configs life.machine) life clock kept.good.1 kept.valid.1 kept.good.0 reads kept.drift few in
    let made = made_is_fusion configs past (config_at configs life.machine) life clock publication configuration kept.good.1 h in
    record {
      reading = subst (IsReading past event life) (sym made.1) (reading_of configs past event life clock kept.good.0 reads);
      held = made.0.right event.at possible;
    }

right_now : (past : List Event) (event : Event) (life : Life) (publication : FusedSpan) → IsMadeNow past event life publication → WasRight (event ∷ past) life publication
right_now past event life publication now = record {
  fused_at = event.at;
  moment = subst (λ (ms : List Moment). IsIn (record { clock = publication.clock; time = event.at }) ms) (sym now.reading.moment) (inl refl);
  by_now = omega arith;
  clock_by_now = omega (arith, now.reading.shows);
  held = now.held;
}

right_if_made : (configs : List Configuration) (past : List Event) (event : Event) (life : Life) (clock : ℕ) (made : Result FusedSpan ℕ) → IsConfiguration (config_at configs life.machine) → IsKept configs (event ∷ past) life →
    fuses_at past life event.action ≡ Some clock → fusion_of (config_at configs life.machine) past life clock ≡ made → AllByRecursion (λ (p : FusedSpan). WasRight (event ∷ past) life p) (one_if_made made)
right_if_made configs past event life clock (Err number) configuration kept fuses h = tt
right_if_made configs past event life clock (Ok publication) configuration kept fuses h =
    (right_now past event life publication (made_now configs past event life clock publication configuration kept fuses h), tt)

right_if_fused : (configs : List Configuration) (past : List Event) (event : Event) (life : Life) (fuses : Option ℕ) → IsConfiguration (config_at configs life.machine) → IsKept configs (event ∷ past) life →
    fuses_at past life event.action ≡ fuses → AllByRecursion (λ (p : FusedSpan). WasRight (event ∷ past) life p) (published_at (config_at configs life.machine) past life fuses)
right_if_fused configs past event life None configuration kept h = tt
right_if_fused configs past event life (Some clock) configuration kept h =
    right_if_made configs past event life clock (fusion_of (config_at configs life.machine) past life clock) configuration kept h refl

-- each publication of machine life held the true time when it was made
pub were_right : (configs : List Configuration) (past : List Event) (life : Life) → IsConfiguration (config_at configs life.machine) → IsKept configs past life → AllByRecursion (λ (p : FusedSpan). WasRight past life p) (publications_of (config_at configs life.machine) past life)
were_right configs [] life configuration kept = tt
were_right configs (event ∷ past) life configuration kept =
    all_append (λ (p : FusedSpan). WasRight (event ∷ past) life p) (publications_of (config_at configs life.machine) past life) (published_at (config_at configs life.machine) past life (fuses_at past life event.action))
    (all_weaker (λ (p : FusedSpan). WasRight past life p) (λ (p : FusedSpan). WasRight (event ∷ past) life p) (λ p was. was_right_stays configs past event life p kept.good.0 was) (publications_of (config_at configs life.machine) past life)
    (were_right configs past life configuration (kept_before configs past event life kept)))
    (right_if_fused configs past event life (fuses_at past life event.action) configuration kept refl)

pub publications_right : (configs : List Configuration) (past : List Event) (life : Life) → IsConfiguration (config_at configs life.machine) → AreGood configs past → AllByRecursion (λ (e : Event). IsAction e.action) past →
    KeepsDrift (config_at configs life.machine).drift (moments_of past life) → FewLie configs past → AllByRecursion (λ (p : FusedSpan). WasRight past life p) (publications_of (config_at configs life.machine) past life)
publications_right configs past life configuration good valid drift few = were_right configs past life configuration (record { good = good; valid = valid; drift = drift; few = few_lie_in configs past life few })
