-- The workers so far read nothing but these publications.
use Rattle.std.proofs.Common.{All, take}
use mathlib.Core.List.{IsPrefix}
use Rattle.tt_server.proofs.servers.read_published.Given as goal

abbrev pub invariant-loop-worker : goal.invariant-loop-worker
invariant-loop-worker l = All (λ end. IsPrefix end.seen.items l.published.items) (take l.worker-index l.workers)
