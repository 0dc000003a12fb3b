use Rattle.std.proofs.Common.{◌+◌, [], ◌∷◌, ◌++◌}
use Rattle.tt_world.specs.Config.{config_at}
use Rattle.tt_world.proofs.Histories.Meeting.{keeps_or_not, one_broken}
use Rattle.tt_consistency.specs.Calls.{kept_after}
use Rattle.tt_consistency.specs.CourseSteps.{kept_in}
use Rattle.tt_consistency.specs.Steps.{Kept, new_kept}
use Rattle.tt_consistency.specs.Timeline.{steps_told, moments_told}
use Rattle.tt_consistency.proofs.Calling.{named-by_calls, made-by_calls}
use Rattle.tt_consistency.proofs.Comparing.{publications-meet, life-meets, daemon-meets}
use Rattle.tt_consistency.proofs.Rounding.{run, leaves}
use Rattle.tt_consistency.proofs.meeting.meeting_laws.Goals as goal

pub returns : goal.returns
returns c = record {
  call_meets = λ configs m base timeline rounds turns given exchanges from to answer there good begins course are is room configuration valid valid_base drift few.
      publications-meet configs m base timeline (steps_told timeline) (moments_told timeline) (kept_in (to exchanges))
      (run configs m base timeline rounds turns given exchanges from to answer there good begins course are is)
      (leaves configs m base timeline rounds turns given exchanges from to answer there good begins course are is room) configuration valid valid_base drift few;
  publications_meet = λ config m at clock lives timeline calls in_time fits few configuration turn are is valid short drift right.
      daemon-meets config m at clock lives timeline (kept_after (new_kept config m (lives + 1)) calls) in_time fits few is short
      (named-by_calls config m (lives + 1) timeline calls turn are) (made-by_calls config m (lives + 1) timeline calls turn are) configuration valid drift right;
  unmet_breaks = λ config m at clock lives timeline calls in_time fits few configuration turn are is valid short.
      let to : Kept = kept_after (new_kept config m (lives + 1)) calls in
      one_broken config.drift to.published (keeps_or_not config.drift (moments_told timeline ++ record { clock = clock; time = at } ∷ []))
      (λ drift right.
      daemon-meets config m at clock lives timeline to in_time fits few is short
      (named-by_calls config m (lives + 1) timeline calls turn are) (made-by_calls config m (lives + 1) timeline calls turn are) configuration valid drift right);
  publications_meet_after = λ configs m number at clock base timeline calls there begins actions configuration turn are is valid short drift right.
      life-meets m number at clock timeline (kept_after (new_kept (config_at configs m) m number) calls) configs base there begins actions is short
      (named-by_calls (config_at configs m) m number timeline calls turn are) (made-by_calls (config_at configs m) m number timeline calls turn are) configuration valid drift right;
}
