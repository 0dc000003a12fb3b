-- What a running machine published held the true time, and meets what it published before.
use Rattle.std.specs.List.{AllByRecursion}
use Rattle.tt_world.specs.Meeting.{AllMeet}
use Rattle.tt_consistency.specs.Calls.{kept_after}
use Rattle.tt_consistency.specs.Steps.{Kept}
use Rattle.tt_consistency.specs.Timeline.{HeldTrueTime}
use Rattle.tt_consistency.proofs.Calling.{named-by_calls, made-by_calls}
use Rattle.tt_consistency.proofs.Comparing.{daemon-meets}
use Rattle.tt_consistency.proofs.Telling.{Follows, daemon-holds}
use Rattle.tt_consistency.specs.Running.{Machine, IsRunning, life_of_machine, begun_with, clock_moments, published_by}

module _ (machine : Machine) (running : IsRunning machine) where
  -- what it has at the end of its calls
  abbrev to : Kept
  to = kept_after (begun_with machine) machine.calls

  -- all that is assumed of it is met
  met : (Conclusion : Type 0) → Follows machine.number (life_of_machine machine).number machine.start.at machine.start.clock machine.timeline to machine.config Conclusion → Conclusion
  met Conclusion follows =
      follows running.forward running.nonces (named-by_calls machine.config machine.number (life_of_machine machine).number machine.timeline machine.calls running.in_turn running.told)
      (made-by_calls machine.config machine.number (life_of_machine machine).number machine.timeline machine.calls running.in_turn running.told)
      running.configured running.of_time running.drift running.few_faulty

  pub publications-hold : AllByRecursion (HeldTrueTime (clock_moments machine)) (published_by machine)
  publications-hold =
      met (AllByRecursion (HeldTrueTime (clock_moments machine)) (published_by machine))
      (daemon-holds machine.config machine.number machine.start.at machine.start.clock machine.start.lives machine.timeline to running.at running.clock running.lives)

  pub publications-meet : AllMeet machine.config.drift (published_by machine)
  publications-meet =
      met (AllMeet machine.config.drift (published_by machine))
      (daemon-meets machine.config machine.number machine.start.at machine.start.clock machine.start.lives machine.timeline to running.at running.clock running.lives)
