use Rattle.std.proofs.Common.{◌≡◌, ◌+◌, ◌≤◌, length}
use Rattle.tt_top.specs.Line.{lines_length}
use Rattle.tt_top.proofs.lines.lines_of.Given as goal

abbrev pub invariant-loop-first : goal.invariant-loop-first
invariant-loop-first l = (lines_length l.fn.lines l.bytes + length l.rest ≡ lines_length l.left l.rest + length l.bytes) × (length l.rest ≤ length l.bytes)

abbrev pub decreases-loop-first : goal.decreases-loop-first
decreases-loop-first l = length l.rest
