-- The worker began with the same post.
use Rattle.std.proofs.Common.{◌≡◌}
use Rattle.tt_workers.proofs.serving.end_late.Given as goal

abbrev pub invariant-loop-place : goal.invariant-loop-place
invariant-loop-place g l = l.worker.first ≡ l.initial.worker.first
