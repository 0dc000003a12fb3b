use Rattle.std.proofs.Common.{◌≡◌, ◌++◌, take}
use Rattle.std.specs.Prelude.{string_bytes}
use Rattle.std.specs.List.{flat_map}
use Rattle.tt_top.specs.History.{step_text}
use Rattle.tt_top.proofs.histories.push_steps.Given as goal

abbrev pub invariant-loop-width : goal.invariant-loop-width
invariant-loop-width l = string_bytes l.text ≡ string_bytes l.fn.text ++ flat_map (step_text l.most) (take l.width-index l.widths)
