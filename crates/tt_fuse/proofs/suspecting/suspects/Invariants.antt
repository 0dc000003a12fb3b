use Rattle.std.proofs.Common.{◌≤◌, length, take}
use Rattle.tt_fuse.specs.Suspect.{AreSuspects}
use Rattle.tt_fuse.proofs.suspecting.suspects.Given as goal

abbrev pub invariant-loop-source : goal.invariant-loop-source
invariant-loop-source l = (length l.found.items ≤ l.source) × AreSuspects (take l.source l.spans) l.fused l.found.items
