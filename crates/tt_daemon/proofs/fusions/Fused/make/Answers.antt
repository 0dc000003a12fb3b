use Rattle.std.proofs.Common.{refl}
use Rattle.tt_fuse.specs.declared.fusion.FuseFault.TheVariants.{NoPoint}
use Rattle.tt_daemon.proofs.Fusing.{made-answer, refused-none, answered-some}
use Rattle.tt_daemon.proofs.fusions.Fused.make.Goals as goal

pub returns-clause-no_point : goal.returns-clause-no_point
returns-clause-no_point c =
    let answer = made-answer c.args.spans.now c.args.faulty c.args.clock NoPoint c.of.result c.of.ensures in
    let none = refused-none c.args.spans.now c.args.faulty c.args.clock NoPoint c.of.result answer in
    (λ refused. (c.in_ok-check_counts.ensures.taken.0 refl, none.0 refused), λ h. none.1 h.1)

pub returns-clause-answered : goal.returns-clause-answered
returns-clause-answered c =
    let answer = made-answer c.args.spans.now c.args.faulty c.args.clock NoPoint c.of.result c.of.ensures in
    let some = answered-some c.args.spans.now c.args.faulty c.args.clock NoPoint c.of.result answer in
    (λ ok. (c.in_ok-check_counts.ensures.taken.0 refl, some.0 ok), λ h. some.1 h.1)
