-- One list of all that was done in a life. Each list has the newest first.
use Rattle.std.specs.Prelude.{◌≡◌, ℕ, ◌<◌, ◌≤◌, ◌^◌, List, length, map, Bool, Option}
use Rattle.tt_span.specs.Time.{max_time}
use Rattle.tt_daemon.specs.Config.{Configuration}
use Rattle.tt_publish.specs.Reading.{fused_span_of}
use Rattle.tt_stamp.specs.declared.stampings.Stamping.{Stamping}
use Rattle.tt_connections.specs.declared.presence.Question.{Question}
use Rattle.tt_world.specs.Config.{config_at}
use Rattle.tt_world.specs.Life.{life_at}
use Rattle.tt_world.specs.declared.events.Event.{Event}
use Rattle.tt_consistency.specs.Assumed.{moments_in}
use Rattle.tt_consistency.specs.Cuts.{IsToldOf}
use Rattle.tt_consistency.specs.Lives.{IsLife, Life}
use Rattle.tt_consistency.specs.Running.{Start}
use Rattle.tt_consistency.specs.Sequencer.{ShareOneSequencer}
use Rattle.tt_consistency.specs.Timeline.{BeginsLife, Timed}
use Rattle.tt_life_events.specs.Acts.{AllReadAs, IsRunOfAll, IsUnworked, LifeDone, entries_in}
use Rattle.tt_life_events.specs.Merging.{AreInOrder, IsMergeOf, IsOneListWith, stamps_in}
use Rattle.tt_life_events.specs.Threads.{AreOfWorkers, ClockRises, daemon_list}
use Rattle.tt_life_events.specs.Turns.{AllTurnsOf, AreListsOf}

-- each worker of a life has the list of what it did, in the order of its turns; their stamps merge into a log, which is this history of their sequencer; and if true time does not fall along the log, all is one list with what the daemon did, which is a run of the model with the readings of the life if no clock reading falls in it
pub record HasOneList {C V : Type 0} (configs : List Configuration) (base : List Event) (gives : C → Option ℕ → C → Type 0) (failed : C → ℕ) (says : V → Question → Bool → Type 0) (waits : ℕ)
    (life : Life gives failed says waits) (start : Start) (timeline : List Timed) (turns : AllTurnsOf gives failed says waits life start timeline life.workers) (history : List Stamping) : Type 0 where
  pub lists : List (List LifeDone)
  pub log : List LifeDone
  pub are_lists : AreListsOf gives failed says waits life start timeline 0 life.workers turns lists
  pub own : AreOfWorkers life.config (moments_in start timeline) (map fused_span_of life.published) 0 lists
  pub merge : IsMergeOf (map stamps_in lists) log
  pub log_is : entries_in log ≡ history
  pub one_list : AreInOrder max_time log → (all : List LifeDone) × IsOneListWith max_time (daemon_list timeline) lists log all
      × (ClockRises start.clock all → length all < 2 ^ 64 → IsRunOfAll configs life.number life.epoch base all × AllReadAs life.config life.number life.epoch (map fused_span_of life.published) all)

-- a life of two workers that shared one sequencer, read what was published once, and gave two stamps in all: everything that the law of its list assumes holds of it
pub record IsWorkedList {C V : Type 0} (configs : List Configuration) (base : List Event) (gives : C → Option ℕ → C → Type 0) (failed : C → ℕ) (says : V → Question → Bool → Type 0) (waits : ℕ)
    (life : Life gives failed says waits) (start : Start) (timeline : List Timed) (turns : AllTurnsOf gives failed says waits life start timeline life.workers) (shared : ShareOneSequencer life.workers) : Type 0 where
  pub proved : IsLife life
  pub assumed : IsToldOf life start timeline
  pub there : life.number < length configs
  pub configured : config_at configs life.number ≡ life.config
  pub fits : length life.workers ≤ life.config.workers
  pub begins : BeginsLife configs life.number life.epoch start.at start.clock base
  pub unworked : IsUnworked (config_at configs life.number) base (life_at base life.number)
  pub workers : length life.workers ≡ 2
  pub published : length life.published ≡ 1
  pub stamps : length shared.history ≡ 2
  pub has : HasOneList configs base gives failed says waits life start timeline turns shared.history
  pub log_in_order : AreInOrder max_time has.log
  pub rises : ClockRises start.clock (has.one_list log_in_order).0
  pub few : length (has.one_list log_in_order).0 < 2 ^ 64
