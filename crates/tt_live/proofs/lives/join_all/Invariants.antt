-- The first fault so far is one that such a thread ends with.
use Rattle.std.proofs.Common.{IfErr}
use Rattle.tt_live.specs.Fault.{IsEndFault}
use Rattle.tt_live.proofs.lives.join_all.Given as goal

abbrev pub invariant-loop : goal.invariant-loop
invariant-loop g l = IfErr l.first IsEndFault
