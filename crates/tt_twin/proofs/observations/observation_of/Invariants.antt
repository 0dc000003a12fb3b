use Rattle.std.proofs.Common.{◌≤◌, take, reverse}
use Rattle.tt_world.specs.Bad.{accepted}
use Rattle.tt_world.specs.State.{StandsFor}
use Rattle.tt_twin.specs.Observation.{IsObservation}
use Rattle.tt_twin.proofs.observations.observation_of.Given as goal

-- the world and the observation stand for the events so far
abbrev pub invariant-loop-event : goal.invariant-loop-event
invariant-loop-event l = record {
  stands : StandsFor l.configs (reverse (take l.event-index l.events)) l.world;
  observations : IsObservation l.configs (accepted l.configs (reverse (take l.event-index l.events))) l.machine l.publication l.observation;
  few : l.observation.shown ≤ l.event-index;
}
