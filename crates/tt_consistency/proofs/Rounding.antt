-- The rounds of a call are a run of the model, which leaves what the call left.
use Rattle.std.proofs.Common.{◌≡◌, ℕ, ◌<◌, ◌^◌, List, [], ◌++◌, Result, sym, ap, subst, ◌∙◌, length}
use Rattle.std.proofs.lemmas.List.FromFn.{length-map-range_with_len}
use Rattle.tt_daemon.specs.Config.{Configuration}
use Rattle.tt_rounds.specs.Course.{Given, Stand, rounds_of}
use Rattle.tt_rounds.specs.Link.{Exchange}
use Rattle.tt_rounds.specs.Making.{Leads}
use Rattle.tt_rounds.specs.declared.faults.NodeFault.{NodeFault}
use Rattle.tt_world.specs.Bad.{accepted}
use Rattle.tt_world.specs.Config.{config_at}
use Rattle.tt_world.specs.Past.{time_of, clock_of, sends_now}
use Rattle.tt_world.specs.declared.events.Event.{Event}
use Rattle.tt_world.specs.Life.{life_at}
use Rattle.tt_world.specs.Private.Machine.{source_of}
use Rattle.tt_consistency.specs.CourseSteps.{kept_in, rounds_steps}
use Rattle.tt_consistency.specs.Steps.{Step, after_steps, kept_at}
use Rattle.tt_consistency.specs.Timeline.{AreOf, IsRunOf, IsTimeline, Timed, events_of, steps_told, moments_told}
use Rattle.tt_consistency.proofs.Coursing.{rounds-made}
use Rattle.tt_consistency.proofs.Naming.{size, names-rounds}
use Rattle.tt_consistency.proofs.Running.{timeline-is_run, run-leaves}

module _ (configs : List Configuration) (m : ℕ) (base : List Event) (timeline : List Timed) (rounds turns : ℕ) (given : Given) (exchanges : List Exchange) (from to : List Exchange → Stand) (answer : Result (Unit {0}) NodeFault)
    (there : m < length configs) (good : accepted configs base ≡ base) (begins : kept_at configs base m ≡ kept_in (from [])) (course : Leads (rounds_of rounds turns) given exchanges from to answer)
    (are : steps_told timeline ≡ rounds_steps rounds turns (from []) given) (is : IsTimeline (time_of base) (clock_of base (life_at base m)) timeline) where
  count : size (kept_in (from [])) ≡ (config_at configs m).sources
  count = ap size (sym begins) ∙ length-map-range_with_len (λ i. source_of base (life_at base m) i) 0 (config_at configs m).sources

  named : AreOf (config_at configs m).sources (steps_told timeline)
  named = subst (AreOf (config_at configs m).sources) (sym are) (subst (λ (n : ℕ). AreOf n (rounds_steps rounds turns (from []) given)) count (names-rounds rounds turns (from []) given))

  pub run : IsRunOf configs m base (events_of base m timeline) (steps_told timeline) (moments_told timeline)
  run = timeline-is_run configs m base timeline there good named is

  pub leaves : sends_now (events_of base m timeline ++ base) m < 2 ^ 64 → kept_at configs (events_of base m timeline ++ base) m ≡ kept_in (to exchanges)
  leaves room =
      run-leaves configs m base (events_of base m timeline) (steps_told timeline) (moments_told timeline) (kept_in (from [])) (kept_in (to exchanges)) run begins
      (rounds-made rounds turns given exchanges from to answer course ∙ ap (λ (steps : List Step). after_steps (kept_in (from [])) steps) (sym are)) room
