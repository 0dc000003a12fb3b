use Rattle.std.proofs.Common.{◌≡◌, ◌++◌, map, take}
use Rattle.tt_twin.specs.Observation.{glance_again}
use Rattle.tt_twin.proofs.twins.look_all_again.Given as goal

abbrev pub invariant-loop-glance : goal.invariant-loop-glance
invariant-loop-glance l = l.twin.items ≡ l.fn.twin.items ++ map (glance_again l.scene.side l.scene.drift l.scene.machine l.scene.clock l.scene.end) (take l.glance-index l.glances)
