-- The notes so far are those of the workers so far.
use Rattle.std.proofs.Common.{◌≡◌, take}
use Rattle.tt_live.specs.Notes.{notes_of}
use Rattle.tt_live.proofs.reports.notes_in.Given as goal

abbrev pub invariant-loop-worker : goal.invariant-loop-worker
invariant-loop-worker l = l.notes.items ≡ notes_of (take l.worker-index l.workers)
