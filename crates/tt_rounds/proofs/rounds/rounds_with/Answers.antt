use Rattle.std.proofs.Common.{arith}
use Rattle.tt_rounds.proofs.Fusings.{Grows-length}
use Rattle.tt_rounds.proofs.rounds.rounds_with.Goals as goal

pub returns-in-Ok-clause-few : goal.returns-in-Ok-clause-few
returns-in-Ok-clause-few g c = omega (arith, Grows-length _ _ _ c.in-Ok.ensures.grew, c.in-Ok.ensures.few)

pub returns-in-Err-clause-few : goal.returns-in-Err-clause-few
returns-in-Err-clause-few g c = omega (arith, Grows-length _ _ _ c.in-Err.ensures.grew, c.in-Err.ensures.few)
