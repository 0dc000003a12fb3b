-- The workers so far read nothing but these publications.
use Rattle.std.proofs.Common.{All, take}
use Rattle.tt_node.specs.Sharing.{ReadsPublished}
use Rattle.tt_node.proofs.nodes.read_published.Given as goal

abbrev pub invariant-loop-worker : goal.invariant-loop-worker
invariant-loop-worker l = All (ReadsPublished l._drift l.published) (take l.worker-index l.workers)
