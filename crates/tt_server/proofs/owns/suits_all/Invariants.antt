-- It suits the masters so far.
use Rattle.std.proofs.Common.{◌≡◌, true, take}
use Rattle.tt_server.specs.Own.{suits_all}
use Rattle.tt_server.proofs.owns.suits_all.Given as goal

abbrev pub invariant-loop-master : goal.invariant-loop-master
invariant-loop-master l = suits_all l.own (take l.master-index l.masters) ≡ true
