use Rattle.std.proofs.Common.{◌≡◌, List, filter}
use Rattle.std.specs.List.{range_with_len}
use Rattle.tt_daemon.specs.Config.{Configuration}
use Rattle.tt_world.specs.declared.events.Event.{Event}
use Rattle.tt_world.specs.Bad.{accepted}
use Rattle.tt_world.specs.State.{StandsFor, knows}
use Rattle.tt_twin.proofs.observations.known_sources.Given as goal

abbrev pub invariant-loop-source : goal.invariant-loop-source
invariant-loop-source l = (configs : List Configuration) (past : List Event) → StandsFor configs past l.world →
    l.known.items ≡ filter (λ i. knows configs (accepted configs past) l.machine i) (range_with_len 0 l.source)
