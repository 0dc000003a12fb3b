-- A run that keeps the assumptions, and what came before in it.
use Rattle.std.proofs.Common.{◌≡◌, ◌≤◌, cond, List, [], ◌∷◌, ◌++◌, Option, Some, None, refl, ap, subst, sym, arith}
use Rattle.std.specs.Prelude.{is_some}
use Rattle.std.specs.List.{AllByRecursion}
use Rattle.tt_world.specs.declared.faults.WorldFault.{WorldFault}
use Rattle.tt_world.specs.declared.events.Event.{Event}
use Rattle.tt_daemon.specs.Config.{Configuration}
use Rattle.tt_world.specs.Config.{config_at}
use Rattle.tt_world.specs.Past.{clock_reading, time_of, moment_at, moments_of}
use Rattle.tt_world.specs.Bad.{first_bad, accepted}
use Rattle.tt_world.specs.Assumptions.{FewLie, ClocksKeepDrift, MeetsAssumptions}
use Rattle.tt_world.specs.Headline.{IsAction}
use Rattle.tt_world.proofs.Histories.Ageing.{drift_kept_before}
use Rattle.tt_world.proofs.Histories.Judging.{AreGood, good_accepted, all_accepted}

-- events, none of them bad, that keep the assumptions
pub record IsSound (configs : List Configuration) (past : List Event) : Type 0 where
  pub good : AreGood configs past
  pub valid : AllByRecursion (λ (e : Event). IsAction e.action) past
  pub clocks : ClocksKeepDrift configs past
  pub few : FewLie configs past

-- the events that were not bad, where all keep the assumptions
pub sound_accepted : (configs : List Configuration) (past : List Event) → AllByRecursion (λ (e : Event). IsAction e.action) past → MeetsAssumptions configs past → IsSound configs (accepted configs past)
sound_accepted configs past valid meets = record {
  good = good_accepted configs past;
  valid = all_accepted (λ (e : Event). IsAction e.action) configs past valid;
  clocks = meets.clocks;
  few = meets.sources;
}

pub sound_before : (configs : List Configuration) (past : List Event) (event : Event) → IsSound configs (event ∷ past) → IsSound configs past
sound_before configs past event sound = record {
  good = sound.good.1;
  valid = sound.valid.1;
  clocks = λ life there. drift_kept_before (config_at configs life.machine).drift (moment_at life event.at (clock_reading past event.action)) (moments_of past life) (sound.clocks life there);
  few = sound.few.1;
}

-- what came before keeps the assumptions too
pub sound_earlier : (configs : List Configuration) (later past : List Event) → IsSound configs (later ++ past) → IsSound configs past
sound_earlier configs [] past sound = sound
sound_earlier configs (event ∷ later) past sound = sound_earlier configs later past (sound_before configs (later ++ past) event sound)

-- true time does not fall
pub time_on : (configs : List Configuration) (later past : List Event) → AreGood configs (later ++ past) → time_of past ≤ time_of (later ++ past)
time_on configs [] past good = omega arith
time_on configs (event ∷ later) past good =
    let before : time_of past ≤ time_of (later ++ past) = time_on configs later past good.1 in
    let on : time_of (later ++ past) ≤ event.at = good.0.not_before in
    omega arith

-- these events come after those
pub record IsAfter (events past : List Event) : Type 0 where
  pub later : List Event
  pub all : events ≡ later ++ past

kept_after : (past events : List Event) (event : Event) (reason : Option WorldFault) → IsAfter events past → IsAfter (cond (is_some reason) events (event ∷ events)) past
kept_after past events event None after = record { later = event ∷ after.later; all = ap (λ (es : List Event). event ∷ es) after.all }
kept_after past events event (Some number) after = after

pub sound_if_after : (configs : List Configuration) (events past : List Event) → IsAfter events past → IsSound configs events → IsSound configs past
sound_if_after configs events past after sound = sound_earlier configs after.later past (subst (IsSound configs) after.all sound)

pub time_if_after : (configs : List Configuration) (events past : List Event) → IsAfter events past → AreGood configs events → time_of past ≤ time_of events
time_if_after configs events past after good =
    subst (λ (es : List Event). time_of past ≤ time_of es) (sym after.all) (time_on configs after.later past (subst (AreGood configs) after.all good))

-- the events that were not bad come after those of them that came before
pub accepted_after : (configs : List Configuration) (later past : List Event) → IsAfter (accepted configs (later ++ past)) (accepted configs past)
accepted_after configs [] past = record { later = []; all = refl }
accepted_after configs (event ∷ later) past =
    kept_after (accepted configs past) (accepted configs (later ++ past)) event (first_bad configs (accepted configs (later ++ past)) event) (accepted_after configs later past)
