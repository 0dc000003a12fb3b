use Rattle.std.proofs.Common.{◌≡◌, ◌∙◌, ap, ap₂, codes}
use Rattle.std.proofs.lemmas.Result.{IfOk-weaker}
use Rattle.clap.specs.Simple.{App, Shape, app_of, new_app, with_subcommand}
use Rattle.ttd_words.specs.CommandLine.{inputs_app, runs_app}
use Rattle.ttd_words.proofs.tree.inputs_command.Goals as goal

pub returns : goal.returns
unfolding inputs_app
returns c =
    let top : App → Shape = λ a. a.top in
    let picture_added : App = with_subcommand runs_app (new_app (codes "picture")).top in
    let live_added : App = with_subcommand picture_added (new_app (codes "live")).top in
    let with_picture : app_of c.in_ok-with_picture.with_picture ≡ picture_added =
    c.in_ok-with_picture.ensures.shape c.plain_command-picture.ensures.local ∙ ap₂ with_subcommand c.in_ok-with_runs.ensures.app (ap top c.plain_command-picture.ensures.app) in
    let with_live : app_of c.in_ok-with_live.with_live ≡ live_added =
    c.in_ok-with_live.ensures.shape c.plain_command-live.ensures.local ∙ ap₂ with_subcommand with_picture (ap top c.plain_command-live.ensures.app) in
    record {
      app = IfOk-weaker c.subcommand-3.result _ _ (λ r h. h.shape c.plain_command-judge.ensures.local ∙ ap₂ with_subcommand with_live (ap top c.plain_command-judge.ensures.app)) c.subcommand-3.ensures;
    }
