use Rattle.std.proofs.Common.{◌≡◌}
use Rattle.tt_tests.proofs.publications.publish_all.Given as goal

-- the teller is of the same source
abbrev pub invariant-loop-k : goal.invariant-loop-k
invariant-loop-k g l = l.teller.source ≡ l.fn.teller.source
