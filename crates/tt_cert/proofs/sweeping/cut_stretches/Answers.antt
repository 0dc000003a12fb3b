use Rattle.tt_cert.proofs.Passing.{IsSwept-step}
use Rattle.tt_cert.proofs.sweeping.cut_stretches.Goals as goal

pub loop-from-preserved : goal.loop-from-preserved
loop-from-preserved c =
    rw c.push.ensures (IsSwept-step c.args.lows.now c.args.highs.now c.requires.ends c.args.start c.args.stop c.loop-from.begun c.loop-from.ended c.passed-begun.result c.passed-ended.result c.loop-from.from c.next_cut-next.result c.loop-from.found c.loop-from.invariant c.loop-from-test.true c.passed-begun.ensures c.passed-ended.ensures c.next_cut-next.ensures)
