use Rattle.std.proofs.Common.{ℕ, ◌<◌}
use Rattle.tt_cert.specs.Valid.{IsMemberAt}
use Rattle.tt_cert.proofs.checking.is_set_at.Given as goal

abbrev pub invariant-loop-k : goal.invariant-loop-k
invariant-loop-k l = (j : ℕ) → j < l.k → IsMemberAt l.spans l.time l.sources j
