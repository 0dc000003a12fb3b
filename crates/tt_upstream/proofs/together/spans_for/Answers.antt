use Rattle.std.proofs.Common.{arith}
use Rattle.tt_upstream.proofs.Fusing.{spans-more}
use Rattle.tt_upstream.proofs.together.spans_for.Goals as goal

pub loop-place-preserved : goal.loop-place-preserved
loop-place-preserved c = spans-more c.args.said.now c.loop-place.spans c.loop-place.place c.index-said-place.result c.span_for.result (omega arith) (omega arith) c.index-said-place.is c.span_for.ensures c.loop-place.invariant
