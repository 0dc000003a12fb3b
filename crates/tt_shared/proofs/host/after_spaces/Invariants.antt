-- What is left gives what the whole gives.
use Rattle.std.proofs.Common.{◌≡◌, drop}
use Rattle.tt_shared.specs.Host.{after_spaces}
use Rattle.tt_shared.proofs.host.after_spaces.Given as goal

abbrev pub invariant-loop-place : goal.invariant-loop-place
invariant-loop-place l = after_spaces (drop l.place l.bytes) ≡ after_spaces l.fn.bytes
