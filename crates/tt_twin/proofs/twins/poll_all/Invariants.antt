use Rattle.std.proofs.Common.{◌≡◌, ◌++◌, map, take}
use Rattle.tt_world.specs.declared.events.Action.TheVariants as does
use Rattle.tt_twin.proofs.twins.poll_all.Given as goal

abbrev pub invariant-loop-source : goal.invariant-loop-source
invariant-loop-source l = l.twin.items ≡ l.fn.twin.items ++ map (λ i. record { at = l.at; action = does.Send l.machine i l.clock }) (take l.source-index l.sources)
