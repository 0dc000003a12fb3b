use Rattle.tt_span.proofs.Widening.{least-widening, zero-widening, rises-widening, subadditive-widening, bound-widening}
use Rattle.tt_span.proofs.drifts.drift_laws.Goals as goal

pub returns-clause-least : goal.returns-clause-least
returns-clause-least c = least-widening

pub returns-clause-nothing : goal.returns-clause-nothing
returns-clause-nothing c = zero-widening

pub returns-clause-rises : goal.returns-clause-rises
returns-clause-rises c = rises-widening

pub returns-clause-subadditive : goal.returns-clause-subadditive
returns-clause-subadditive c = subadditive-widening

pub returns-clause-bound : goal.returns-clause-bound
returns-clause-bound c = bound-widening
