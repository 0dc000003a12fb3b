use Rattle.std.proofs.Common.{take}
use Rattle.tt_keys.specs.Line.{Lacks}
use Rattle.tt_keys.proofs.lines.cut.Given as goal

abbrev pub invariant-bytes : goal.invariant-bytes
invariant-bytes l = Lacks l.byte (take l.i l.bytes)
