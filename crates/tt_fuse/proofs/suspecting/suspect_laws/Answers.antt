use Rattle.std.proofs.Common.{subst}
use Rattle.tt_span.specs.Interval.{Interval, Meets}
use Rattle.tt_fuse.proofs.suspecting.suspect_laws.Goals as goal

pub returns : goal.returns
returns c = record {
  no_possible_time = λ spans f fused fusion k suspect span is x possible holds.
      let apart : Meets span fused → ⊥ = subst (λ (s : Interval). Meets s fused → ⊥) is (suspect.1 span) in
      apart (x, holds, fusion.right x possible);
}
