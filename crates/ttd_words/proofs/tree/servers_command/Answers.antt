use Rattle.std.proofs.Common.{◌≡◌, ◌∙◌, ap, ap₂}
use Rattle.std.proofs.lemmas.Result.{IfOk-weaker}
use Rattle.clap.specs.Simple.{App, Shape, app_of, with_subcommand}
use Rattle.ttd_words.specs.CommandLine.{inputs_app, master_app, servers_app}
use Rattle.ttd_words.proofs.tree.servers_command.Goals as goal

pub returns : goal.returns
unfolding servers_app
returns c =
    let top : App → Shape = λ a. a.top in
    let with_master : app_of c.in_ok-with_master.with_master ≡ with_subcommand inputs_app master_app.top =
    c.in_ok-with_master.ensures.shape c.in_ok-master.ensures.local ∙ ap₂ with_subcommand c.in_ok-with_inputs.ensures.app (ap top c.in_ok-master.ensures.app) in
    record {
      app = IfOk-weaker c.subcommand-2.result _ _ (λ r h. h.shape c.in_ok-serve.ensures.local ∙ ap₂ with_subcommand with_master (ap top c.in_ok-serve.ensures.app)) c.subcommand-2.ensures;
    }
