use Rattle.tt_session.proofs.Following.{StepsTo-nil, StepsTo-more}
use Rattle.tt_session.proofs.talks.Talk.step.Goals as goal

pub loop-taken-init : goal.loop-taken-init
loop-taken-init g c = StepsTo-nil g.S.Service.allows c.args.waits c.args.service.now c.args.self.now c.args.replies.now.items

pub returns-in-Ok-true-clause-steps : goal.returns-in-Ok-true-clause-steps
returns-in-Ok-true-clause-steps g c =
    StepsTo-more g.S.Service.allows c.args.waits _ _ _ _ _ _ c.args.bytes.now c.loop-taken.taken _ _ _ _ _
    c.loop-taken-test.true c.in-Ok-true.field-0-test c.loop-taken.invariant c.in-Ok-true.ensures.ok

pub loop-taken-preserved : goal.loop-taken-preserved
loop-taken-preserved g c =
    StepsTo-more g.S.Service.allows c.args.waits _ _ _ _ _ _ c.args.bytes.now c.loop-taken.taken _ _ _ _ _
    c.loop-taken-test.true c.in-Ok-false.field-0-test c.loop-taken.invariant c.in-Ok-false.ensures.ok
