-- The lines of the masters so far.
use Rattle.std.proofs.Common.{◌≡◌, ◌++◌, take}
use Rattle.std.specs.Prelude.{string_bytes}
use Rattle.std.specs.List.{flat_map}
use Rattle.tt_outline.specs.Outline.{master_line}
use Rattle.tt_outline.proofs.outlines.push_masters.Given as goal

abbrev pub invariant-loop-master : goal.invariant-loop-master
invariant-loop-master l = string_bytes l.text ≡ string_bytes l.fn.text ++ flat_map master_line (take l.master-index l.masters)
