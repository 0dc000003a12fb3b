use Rattle.tt_consistency.specs.CourseSteps.{kept_in}
use Rattle.tt_consistency.specs.Timeline.{steps_told, moments_told}
use Rattle.tt_consistency.proofs.Beginning.{begins-life}
use Rattle.tt_consistency.proofs.HoldingRounds.{publications-held}
use Rattle.tt_consistency.proofs.Rounding.{run, leaves}
use Rattle.tt_consistency.proofs.Running.{timeline-is_run}
use Rattle.tt_consistency.proofs.runs.timeline_laws.Goals as goal

pub returns : goal.returns
returns c = record {
  begins_life = begins-life;
  is_run = timeline-is_run;
  rounds_are_run = λ configs m base timeline rounds turns given exchanges from to answer there good begins course are is room. (
    run configs m base timeline rounds turns given exchanges from to answer there good begins course are is,
    leaves configs m base timeline rounds turns given exchanges from to answer there good begins course are is room,
  );
  publications_hold = λ configs m base timeline rounds turns given exchanges from to answer there good begins course are is room configuration valid valid_base drift few.
      publications-held configs m base timeline (steps_told timeline) (moments_told timeline) (kept_in (to exchanges))
      (run configs m base timeline rounds turns given exchanges from to answer there good begins course are is)
      (leaves configs m base timeline rounds turns given exchanges from to answer there good begins course are is room) configuration valid valid_base drift few;
}
