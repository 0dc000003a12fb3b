use Rattle.std.proofs.Common.{◌≤◌, ◌-◌, length, drop}
use Rattle.tt_cert.specs.Text.{stretch_line, IsStretch}
use Rattle.tt_text.specs.Reading.{NoWord}
use Rattle.tt_text.proofs.Many.{AreReadSoFar}
use Rattle.tt_cert.proofs.reading.stretches_at.Given as goal

abbrev pub invariant-loop-found : goal.invariant-loop-found
invariant-loop-found l = (l.place ≤ length l.text) × AreReadSoFar (stretch_line l.word) IsStretch (NoWord l.word) 33 (drop l.at l.text) l.found.items (drop l.place l.text)

abbrev pub decreases-loop-found : goal.decreases-loop-found
decreases-loop-found l = length l.text - l.place
