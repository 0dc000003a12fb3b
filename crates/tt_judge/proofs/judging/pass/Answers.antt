use Rattle.std.proofs.Common.{arith}
use Rattle.tt_judge.proofs.Sweeping.{greatest-passed, after-ascends}
use Rattle.tt_judge.proofs.judging.pass.Goals as goal

pub returns-else-endings-count-clause-greatest : goal.returns-else-endings-count-clause-greatest
returns-else-endings-count-clause-greatest c =
    greatest-passed c.args.commits.now c.args.endings.now c.requires.endings c.args.time c.loop-count.count c.loop-count.invariant.before
    (after-ascends c.args.commits.now c.args.endings.now c.args.time c.loop-count.count c.requires.endings (λ _. omega (arith, c.if-endings-count.false)))
    c.loop-count.greatest c.loop-count.invariant.passed

pub returns-after-loop-count-clause-greatest : goal.returns-after-loop-count-clause-greatest
returns-after-loop-count-clause-greatest c =
    greatest-passed c.args.commits.now c.args.endings.now c.requires.endings c.args.time c.loop-count.count c.loop-count.invariant.before
    (after-ascends c.args.commits.now c.args.endings.now c.args.time c.loop-count.count c.requires.endings (λ inside. absurd (omega (arith, c.loop-count-test.false, inside))))
    c.loop-count.greatest c.loop-count.invariant.passed
