use Rattle.std.proofs.Common.{List, sym, subst}
use Rattle.tt_consistency.specs.Rising.{StepsRise}
use Rattle.tt_consistency.specs.Steps.{Step}
use Rattle.tt_consistency.proofs.Coursing.{tells-rounds, rounds-made}
use Rattle.tt_consistency.proofs.Rising.{calls-rise, timeline-rises}
use Rattle.tt_consistency.proofs.runs.round_laws.Goals as goal

pub returns : goal.returns
returns c = record {
  made_by_steps = tells-rounds;
  call_made_by_steps = rounds-made;
  calls_rise = calls-rise;
  timeline_rises = λ begun shown from to timeline calls rise are times.
      timeline-rises begun shown from timeline to times (subst (λ (steps : List Step). StepsRise from steps to) (sym are) (calls-rise from to calls rise));
}
