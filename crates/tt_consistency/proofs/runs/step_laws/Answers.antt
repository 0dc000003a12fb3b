use Rattle.tt_consistency.proofs.LivingRounds.{made_by-steps, goes_on_by-steps}
use Rattle.tt_consistency.proofs.runs.step_laws.Goals as goal

pub returns : goal.returns
returns c = record {
  made_by_steps = made_by-steps;
  goes_on_by_steps = goes_on_by-steps;
}
