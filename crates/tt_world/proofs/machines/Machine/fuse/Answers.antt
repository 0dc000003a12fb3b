use Rattle.std.proofs.Common.{List, ◌++◌, ◌∷◌, [], ◌+◌, ap, ◌∙◌}
use Rattle.tt_world.specs.declared.publications.Shown.{Shown}
use Rattle.tt_world.proofs.Simulation.Fused.{certified-more}
use Rattle.tt_world.proofs.machines.Machine.fuse.Goals as goal

pub returns-in_ok-reserve-in-Ok-2-clause-certified : goal.returns-in_ok-reserve-in-Ok-2-clause-certified
returns-in_ok-reserve-in-Ok-2-clause-certified c =
    certified-more c.args.shown.now.items c.push_reserved-in-Ok.new.self.items c.args.machine c.self.inside.life (c.len.result + 1) c.in-Ok.fused
    (c.push_reserved-in-Ok.ensures.items
    ∙ ap (λ (xs : List Shown). xs ++ record { machine = c.args.machine; life = c.self.inside.life; number = c.len.result + 1; fused = c.in-Ok.fused } ∷ []) c.reserve-in-Ok.ensures.items)
    c.in-Ok.ensures.publication
