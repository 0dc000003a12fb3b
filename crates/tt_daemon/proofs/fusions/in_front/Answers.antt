use Rattle.std.proofs.Common.{subst, sym, arith}
use Rattle.std.proofs.lemmas.List.Elements.{All-more}
use Rattle.tt_span.specs.Interval.{Interval, IsInterval}
use Rattle.tt_daemon.proofs.Spans.{take-set_span}
use Rattle.tt_daemon.proofs.fusions.in_front.Goals as goal

pub loop-place-preserved : goal.loop-place-preserved
loop-place-preserved c = record {
  same = take-set_span c.loop-place.kept c.args.spans.now c.loop-place.place c.index-spans-place.result (omega arith) (omega arith) c.loop-place.invariant.same (sym c.index-spans-place.is);
  valid = All-more IsInterval c.args.spans.now c.loop-place.place c.index-spans-place.result (omega arith) c.loop-place.invariant.valid
      (subst (λ (i : Interval). IsInterval i) c.index-spans-place.is c.lo.ensures.valid);
}
