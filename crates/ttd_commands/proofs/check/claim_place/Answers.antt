use Rattle.std.proofs.Common.{inl, below_more}
use Rattle.std.proofs.lemmas.Bool.{both_ways}
use Rattle.ttd_commands.proofs.check.claim_place.Goals as goal

pub returns-then-is_claim_line-clause-place : goal.returns-then-is_claim_line-clause-place
returns-then-is_claim_line-clause-place c = record {
  here = inl (c.is_claim_line.ensures.0 c.if-is_claim_line.true);
  none_before = c.loop-at.invariant;
}

pub loop-at-preserved : goal.loop-at-preserved
loop-at-preserved c =
    below_more _ _ c.loop-at.invariant (λ claim. both_ways c.is_claim_line.result c.if-is_claim_line.false (c.is_claim_line.ensures.1 claim))
