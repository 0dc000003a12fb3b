use Rattle.std.proofs.Common.{rules, tests}
use Rattle.tt_node.proofs.Gating.{no-none, no-more}
use Rattle.tt_node.proofs.workers.ask.Goals as goal

pub loop-init : goal.loop-init
loop-init g c = no-none g.G.Gate.says c.args.worker c.args.call c.args.gate.now

pub loop-preserved : goal.loop-preserved
loop-preserved g c = no-more g.G.Gate.says c.args.worker c.args.call c.loop.counter c.args.gate.now c.loop.gate c.may_pass.new.self c.may_pass.result c.loop.invariant c.may_pass.ensures.said (search (rules, tests))
