use Rattle.std.proofs.Common.{◌≡◌, ◌++◌, take}
use Rattle.std.specs.Prelude.{string_bytes}
use Rattle.std.specs.List.{flat_map}
use Rattle.tt_trace.specs.Tree.{branch_text}
use Rattle.tt_trace.specs.Drawing.{group_of}
use Rattle.tt_trace.proofs.pictures.push_all.Given as goal

abbrev pub invariant-loop-mark : goal.invariant-loop-mark
invariant-loop-mark l = string_bytes l.text ≡ string_bytes l.fn.text ++ flat_map (λ mark. branch_text (group_of l.sheet mark)) (take l.mark-index l.marks)
