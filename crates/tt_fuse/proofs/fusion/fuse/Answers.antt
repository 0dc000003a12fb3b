use Rattle.std.proofs.Common.{refl, arith}
use Rattle.tt_fuse.specs.declared.fusion.FuseFault.TheVariants.{NoPoint}
use Rattle.tt_fuse.proofs.Answering.{refused-none, answered-some, within-source, within-right_source}
use Rattle.tt_fuse.proofs.EndLists.{length-lows_of}
use Rattle.tt_fuse.proofs.fusion.fuse.Goals as goal

pub fused-requires : goal.fused-requires
fused-requires c =
    let can = c.in_ok-check_counts.ensures.taken.0 refl in
    omega (arith, can.enough, length-lows_of c.args.spans.now c.of.result c.of.ensures)

pub returns-clause-no_point : goal.returns-clause-no_point
returns-clause-no_point c =
    rw c.ok_or.ensures.value (refused-none NoPoint c.args.spans.now c.args.faulty c.fused.result (c.in_ok-check_counts.ensures.taken.0 refl) (c.fused.ensures c.args.spans.now c.of.ensures))

pub returns-clause-answered : goal.returns-clause-answered
returns-clause-answered c =
    rw c.ok_or.ensures.value (answered-some NoPoint c.args.spans.now c.args.faulty c.fused.result (c.in_ok-check_counts.ensures.taken.0 refl) (c.fused.ensures c.args.spans.now c.of.ensures))

pub returns-clause-in_a_source : goal.returns-clause-in_a_source
returns-clause-in_a_source c =
    rw c.ok_or.ensures.value (within-source NoPoint c.args.spans.now c.args.faulty c.fused.result (c.in_ok-check_counts.ensures.taken.0 refl) (c.fused.ensures c.args.spans.now c.of.ensures))

pub returns-clause-in_a_right_source : goal.returns-clause-in_a_right_source
returns-clause-in_a_right_source c =
    rw c.ok_or.ensures.value (within-right_source NoPoint c.args.spans.now c.args.faulty c.fused.result (c.fused.ensures c.args.spans.now c.of.ensures))
