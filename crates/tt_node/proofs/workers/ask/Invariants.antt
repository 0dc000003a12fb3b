-- The gate said no each time so far.
use Rattle.tt_node.specs.Gating.{SaysNo}
use Rattle.tt_node.proofs.workers.ask.Given as goal

abbrev pub invariant-loop : goal.invariant-loop
invariant-loop g l = SaysNo g.G.Gate.says l.worker l.call l.initial.gate l.counter l.gate
