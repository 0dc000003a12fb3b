use Rattle.std.proofs.Common.{◌≡◌, ◌∙◌, ap, List, take, replicate, arith, rules}
use Rattle.std.proofs.lemmas.List.{take-replicate}
use Rattle.tt_world.specs.declared.workers.Worker.{Worker}
use Rattle.tt_world.specs.Private.Step.{new_worker}
use Rattle.tt_world.proofs.Simulation.Fresh.{fresh-machine}
use Rattle.tt_world.proofs.machines.Machine.in_life.Goals as goal

pub returns-clause-fresh : goal.returns-clause-fresh
returns-clause-fresh c =
    let each : c.from-workers.result.items ≡ replicate 32 c.new.result = search rules in
    let workers : c.truncate.new.self.items ≡ replicate c.args.config.workers new_worker =
    c.truncate.ensures.items ∙ ap (λ n. take n c.from-workers.result.items) c.workers.ensures.value ∙ ap (λ (xs : List Worker). take c.args.config.workers xs) each
    ∙ take-replicate c.args.config.workers 32 c.new.result (omega (arith, c.workers.ensures.valid.workers_in)) ∙ ap (λ (w : Worker). replicate c.args.config.workers w) c.new.ensures in
    fresh-machine c.args.config c.args.number c.args.life c.args.lease c.args.clock c.new-2.result c.new-3.result.items c.new-4.result c.new-5.result c.truncate.new.self.items c.new-2.ensures.value c.new-3.ensures.items c.new-4.ensures c.new-5.ensures workers
