-- There is one clock for each worker so far.
use Rattle.std.proofs.Common.{◌≡◌, vec_len}
use Rattle.tt_live.proofs.lives.clocks_of.Given as goal

abbrev pub invariant-loop : goal.invariant-loop
invariant-loop g l = vec_len l.clocks ≡ l.counter
