use Rattle.std.proofs.Common.{◌≡◌, take}
use Rattle.tt_trace.specs.Sheet.{sheet_of}
use Rattle.tt_trace.proofs.sheets.Sheet.of.Given as goal

abbrev pub invariant-loop-mark : goal.invariant-loop-mark
invariant-loop-mark l = l.sheet ≡ sheet_of (take l.mark-index l.marks)
