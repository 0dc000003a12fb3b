-- None of the addresses so far is reached.
use Rattle.std.proofs.Common.{◌≡◌, drop}
use Rattle.tt_server.specs.Own.{first_reached}
use Rattle.tt_server.proofs.owns.first_reached.Given as goal

abbrev pub invariant-loop-address : goal.invariant-loop-address
invariant-loop-address l = first_reached l.reach.own l.reach.six_only l.found ≡ first_reached l.reach.own l.reach.six_only (drop l.address-index l.found)
