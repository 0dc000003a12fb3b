use Rattle.std.proofs.Common.{Result, Ok, refl}
use Rattle.tt_span.specs.Interval.{Interval}
use Rattle.tt_publish.specs.Looks.{Looks}
use Rattle.tt_publish.specs.declared.faults.ReadFault.{ReadFault}
use Rattle.tt_node.proofs.Committing.{begun_at, looked_at, refused_by}
use Rattle.tt_node.proofs.workers.Worker.commit.Goals as goal

pub returns-in_err-stamp-clause-begins : goal.returns-in_err-stamp-clause-begins
returns-in_err-stamp-clause-begins g c =
    rw (← c.self.view_is) (
      Ok c.in_ok-reading.reading,
      looked_at (λ (r : Result Interval ReadFault). Looks g.C.Clock.gives g.C.Clock.failed c.self.inside.watch c.self.inside.clock r c.now.new.self c.now.new.clock) c.now.result c.in_ok-reading.reading c.in_ok-reading.ensures.cases c.now.ensures.looks,
      begun_at _ c.args.floor c.self.inside.lease c.in_ok-reading.reading _ _ _ _ _ _ c.in_err-stamp.ensures (refused_by c.from_residual-in_err-stamp.result c.in_err-stamp.field-0.0 c.from_residual-in_err-stamp.ensures),
    )

pub returns-clause-begins : goal.returns-clause-begins
returns-clause-begins g c =
    rw (← c.self.view_is) (
      Ok c.in_ok-reading.reading,
      looked_at (λ (r : Result Interval ReadFault). Looks g.C.Clock.gives g.C.Clock.failed c.self.inside.watch c.self.inside.clock r c.now.new.self c.now.new.clock) c.now.result c.in_ok-reading.reading c.in_ok-reading.ensures.cases c.now.ensures.looks,
      begun_at _ c.args.floor c.self.inside.lease c.in_ok-reading.reading _ _ _ _ _ _ c.in_ok-stamp.ensures refl,
    )
