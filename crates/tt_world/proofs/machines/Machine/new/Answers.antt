use Rattle.std.proofs.Common.{◌∙◌, ap}
use Rattle.tt_span.specs.Interval.{Interval}
use Rattle.tt_world.specs.Private.Step.{machine_in}
use Rattle.tt_world.proofs.Simulation.Fresh.{machine_in-first}
use Rattle.tt_world.proofs.machines.Machine.new.Goals as goal

pub returns-clause-fresh : goal.returns-clause-fresh
returns-clause-fresh c =
    c.in_life.ensures.fresh ∙ ap (λ (lease : Interval). machine_in c.args.config c.args.number 1 lease 0) c.whole.ensures ∙ machine_in-first c.args.config c.args.number
