use Rattle.std.proofs.Common.{◌≤◌, ◌-◌, length, drop}
use Rattle.tt_text.specs.Line.{space_and_number}
use Rattle.tt_text.specs.Reading.{IsNumber}
use Rattle.tt_text.proofs.Many.{AreReadSoFar}
use Rattle.tt_text.proofs.Lines.{LineEnds}
use Rattle.tt_text.proofs.reading.numbers_at.Given as goal

abbrev pub invariant-loop-numbers : goal.invariant-loop-numbers
invariant-loop-numbers l = (l.place ≤ length l.text) × AreReadSoFar space_and_number IsNumber LineEnds 16 (drop l.at l.text) l.numbers.items (drop l.place l.text)

abbrev pub decreases-loop-numbers : goal.decreases-loop-numbers
decreases-loop-numbers l = length l.text - l.place
