-- A machine that runs: the calls of its daemon in one life, what happened between the daemon and its sources, and what it published. Each list of calls and of what happened has the newest first.
use Rattle.std.specs.Prelude.{◌≡◌, ℕ, ◌+◌, ◌-◌, ◌<◌, ◌≤◌, ◌^◌, List, [], ◌∷◌, ◌++◌, length}
use Rattle.tt_span.specs.Drift.{Moment, KeepsDrift}
use Rattle.tt_span.specs.Time.{max_time}
use Rattle.tt_daemon.specs.Config.{Configuration, IsConfiguration}
use Rattle.tt_publish.specs.declared.readings.FusedSpan.{FusedSpan}
use Rattle.tt_world.specs.Life.{Life}
use Rattle.tt_consistency.specs.Calls.{RoundsCall, AreInTurn, calls_steps, kept_after}
use Rattle.tt_consistency.specs.Faulty.{FewFaulty}
use Rattle.tt_consistency.specs.Steps.{Kept, new_kept}
use Rattle.tt_consistency.specs.Timeline.{AreOfTime, IsTimeline, Timed, moments_told, steps_told}

-- when a life begins: how many came before it, and the true time and the clock reading at its beginning
pub record Start : Type 0 where
  pub lives : ℕ
  pub at : ℕ
  pub clock : ℕ

-- a machine in one life: its configuration and its number, how the life began, the calls of its daemon, and what happened in them in true time
pub record Machine : Type 0 where
  pub config : Configuration
  pub number : ℕ
  pub start : Start
  pub calls : List RoundsCall
  pub timeline : List Timed

-- the life that it is in
abbrev pub life_of_machine : Machine → Life
life_of_machine machine = record { machine = machine.number; number = machine.start.lives + 1 }

-- the daemon with which the life begins: it is new, and has published nothing
abbrev pub begun_with : Machine → Kept
begun_with machine = new_kept machine.config machine.number (machine.start.lives + 1)

-- the moments at which its daemon read the clock in this life
abbrev pub clock_moments : Machine → List Moment
clock_moments machine = moments_told machine.timeline ++ record { clock = machine.start.clock; time = machine.start.at } ∷ []

-- what it has published in this life, the oldest first
abbrev pub published_by : Machine → List FusedSpan
published_by machine = (kept_after (begun_with machine) machine.calls).published

-- a machine runs from the beginning of its life under the assumptions on its clock and its sources, and nothing else is assumed
pub record IsRunning (machine : Machine) : Type 0 where
  -- its configuration is one
  pub configured : IsConfiguration machine.config
  -- its life begins within the bounds of lives, time and clock
  pub lives : machine.start.lives < 2 ^ 64 - 1
  pub at : machine.start.at ≤ max_time
  pub clock : machine.start.clock ≤ max_time
  -- the first call begins with the new daemon, and each other one with what the call before it left
  pub in_turn : AreInTurn (begun_with machine) machine.calls
  -- what happened in the calls is their steps, at any true times, among any answers of the sources, whose spans are of time
  pub told : steps_told machine.timeline ≡ calls_steps machine.calls
  pub of_time : AreOfTime machine.timeline
  -- neither true times nor clock readings fall
  pub forward : IsTimeline machine.start.at machine.start.clock machine.timeline
  -- it has nonces for its polls
  pub nonces : length machine.timeline < 2 ^ 64
  -- its clock keeps the drift bound
  pub drift : KeepsDrift machine.config.drift (clock_moments machine)
  -- at each fusion no more of its sources were faulty than may be
  pub few_faulty : FewFaulty machine.config (life_of_machine machine) machine.timeline
