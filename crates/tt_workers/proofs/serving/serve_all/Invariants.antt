-- The worker began with the same post.
use Rattle.std.proofs.Common.{◌≡◌}
use Rattle.tt_workers.proofs.serving.serve_all.Given as goal

abbrev pub invariant-loop-number : goal.invariant-loop-number
invariant-loop-number g l = l.worker.first ≡ l.initial.worker.first
