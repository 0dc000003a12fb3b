-- There is one reader with its writer for each connection so far.
use Rattle.std.proofs.Common.{◌≡◌, vec_len}
use Rattle.tt_live.proofs.sockets.connect_clients.Given as goal

abbrev pub invariant-loop : goal.invariant-loop
invariant-loop g l = vec_len l.workers ≡ l.counter
