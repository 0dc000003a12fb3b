use Rattle.std.proofs.Common.{◌+◌}
use Rattle.tt_world.specs.Config.{config_at}
use Rattle.tt_consistency.specs.Steps.{new_kept}
use Rattle.tt_consistency.specs.Calls.{kept_after}
use Rattle.tt_consistency.proofs.Assuming.{lie-from_told, told-from_lie}
use Rattle.tt_consistency.proofs.Calling.{calls-made, named-by_calls, made-by_calls}
use Rattle.tt_consistency.proofs.Telling.{life-holds, daemon-holds}
use Rattle.tt_consistency.proofs.runs.assumption_laws.Goals as goal

pub returns : goal.returns
returns c = record {
  few_lie = lie-from_told;
  few_are_faulty = told-from_lie;
  calls_made_by_steps = calls-made;
  publications_hold = λ config m at clock lives timeline calls in_time fits few configuration turn are is valid short drift right.
      daemon-holds config m at clock lives timeline (kept_after (new_kept config m (lives + 1)) calls) in_time fits few is short
      (named-by_calls config m (lives + 1) timeline calls turn are) (made-by_calls config m (lives + 1) timeline calls turn are) configuration valid drift right;
  publications_hold_after = λ configs m number at clock base timeline calls there begins actions configuration turn are is valid short drift right.
      life-holds m number at clock timeline (kept_after (new_kept (config_at configs m) m number) calls) configs base there begins actions is short
      (named-by_calls (config_at configs m) m number timeline calls turn are) (made-by_calls (config_at configs m) m number timeline calls turn are) configuration valid drift right;
}
