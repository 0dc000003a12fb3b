use Rattle.std.proofs.Common.{◌≤◌, ◌-◌, length, drop}
use Rattle.tt_judge.proofs.Storing.{IsReadSoFar}
use Rattle.tt_judge.proofs.reading.read_history.Given as goal

abbrev pub invariant-loop-place : goal.invariant-loop-place
invariant-loop-place l = (l.place ≤ length l.text) × (length l.history.commits.items ≤ l.place) × IsReadSoFar l.text l.history (drop l.place l.text)

abbrev pub decreases-loop-place : goal.decreases-loop-place
decreases-loop-place l = length l.text - l.place
