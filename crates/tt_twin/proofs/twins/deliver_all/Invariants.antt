use Rattle.std.proofs.Common.{◌≡◌, ◌++◌, length, map, ◌+◌}
use Rattle.std.specs.List.{range_with_len}
use Rattle.tt_world.specs.declared.events.Action.TheVariants as does
use Rattle.tt_twin.proofs.twins.deliver_all.Given as goal

abbrev pub invariant-loop-place : goal.invariant-loop-place
invariant-loop-place l = l.twin.items ≡ l.fn.twin.items ++ map (λ j. record { at = l.at; action = does.Deliver (length l.sources + j) l.clock }) (range_with_len 0 l.place)
