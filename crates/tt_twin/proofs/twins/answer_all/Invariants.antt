use Rattle.std.proofs.Common.{◌≡◌, ◌++◌, map}
use Rattle.std.specs.Prelude.{slice_index_or}
use Rattle.std.specs.List.{range_with_len}
use Rattle.tt_span.specs.Interval.{whole}
use Rattle.tt_world.specs.declared.events.Action.TheVariants as does
use Rattle.tt_twin.proofs.twins.answer_all.Given as goal

abbrev pub invariant-loop-packet : goal.invariant-loop-packet
invariant-loop-packet l = l.twin.items ≡ l.fn.twin.items ++ map (λ j. record { at = l.at; action = does.Answer j (slice_index_or l.spans j whole) }) (range_with_len 0 l.packet)
