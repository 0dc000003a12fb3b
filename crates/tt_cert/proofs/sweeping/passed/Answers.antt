use Rattle.std.proofs.Common.{arith}
use Rattle.tt_cert.proofs.Passing.{more_before, count-stops}
use Rattle.tt_cert.proofs.sweeping.passed.Goals as goal

pub loop-count-preserved : goal.loop-count-preserved
loop-count-preserved c =
    omega (arith, more_before c.args.ends.now c.requires.ascending c.loop-count.count c.args.x c.loop-count-test.true c.if-ends-count.true)

pub returns-else-ends-count : goal.returns-else-ends-count
returns-else-ends-count c =
    count-stops c.args.ends.now c.requires.ascending c.loop-count.count c.args.x c.loop-count.invariant (λ inside. c.if-ends-count.false)
