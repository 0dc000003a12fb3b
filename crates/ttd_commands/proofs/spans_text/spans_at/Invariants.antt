use Rattle.std.proofs.Common.{◌≤◌, ◌-◌, length, drop}
use Rattle.ttd_commands.proofs.Lines.{AreFoundSoFar}
use Rattle.ttd_commands.proofs.spans_text.spans_at.Given as goal

abbrev pub invariant-loop-place : goal.invariant-loop-place
invariant-loop-place l = (l.place ≤ length l.text) × AreFoundSoFar (drop l.at l.text) l.spans.items (drop l.place l.text)

abbrev pub decreases-loop-place : goal.decreases-loop-place
decreases-loop-place l = length l.text - l.place
