use Rattle.std.proofs.Common.{◌≡◌, ◌++◌, map}
use Rattle.std.specs.Prelude.{string_bytes}
use Rattle.std.specs.List.{flat_map, range_with_len}
use Rattle.tt_world.specs.Config.{config_at}
use Rattle.tt_trace.specs.Tree.{branch_text}
use Rattle.tt_trace.specs.Framing.{lane_group}
use Rattle.tt_trace.proofs.framing.push_lanes.Given as goal

abbrev pub invariant-loop-number : goal.invariant-loop-number
invariant-loop-number l = string_bytes l.text ≡ string_bytes l.fn.text ++ flat_map branch_text (map (λ m. lane_group l.sheet m (config_at l.configs m)) (range_with_len 0 l.number))
