use Rattle.std.proofs.Common.{arith}
use Rattle.std.proofs.lemmas.Bool.{both_ways}
use Rattle.std.proofs.lemmas.List.{length_push}
use Rattle.tt_span.specs.Interval.{Meets}
use Rattle.tt_fuse.proofs.NextSource.{AreSuspects-push, AreSuspects-keep}
use Rattle.tt_fuse.proofs.suspecting.suspects.Goals as goal
use Rattle.tt_fuse.proofs.suspecting.suspects.Goals.{then-not-meets, else-not-meets}

pub loop-source-preserved : goal.loop-source-preserved
loop-source-preserved c = elim c.if-not-meets.branch [
  | then-not-meets w ↦
      let apart : Meets c.index-spans-source.result c.args.fused.now → ⊥ = λ meets. both_ways c.meets.result w.if-not-meets.true (c.meets.ensures.1 meets) in
      rw (w.found-is, w.push.ensures.items) (
        omega (arith, c.loop-source.invariant.0, length_push c.loop-source.found.items c.loop-source.source),
        AreSuspects-push c.args.spans.now c.args.fused.now c.loop-source.source c.loop-source.found.items c.index-spans-source.result c.loop-source-test.true c.index-spans-source.is apart c.loop-source.invariant.1,
      )
  | else-not-meets w ↦
      rw w.found-is (
        omega (arith, c.loop-source.invariant.0),
        AreSuspects-keep c.args.spans.now c.args.fused.now c.loop-source.source c.loop-source.found.items c.index-spans-source.result c.loop-source-test.true c.index-spans-source.is (c.meets.ensures.0 w.if-not-meets.false) c.loop-source.invariant.1,
      )
]
