use Rattle.std.proofs.Common.{◌≡◌, ◌∙◌, ap, ap₂}
use Rattle.std.proofs.lemmas.Result.{IfOk-weaker}
use Rattle.clap.specs.Simple.{App, Shape, app_of, with_subcommand}
use Rattle.ttd_words.specs.CommandLine.{ask_app, read_app, servers_app, top_app, ttd_app}
use Rattle.ttd_words.proofs.tree.ttd_command.Goals as goal

pub returns : goal.returns
unfolding ttd_app
returns c =
    let top : App → Shape = λ a. a.top in
    let ask_added : App = with_subcommand servers_app ask_app.top in
    let read_added : App = with_subcommand ask_added read_app.top in
    let with_ask : app_of c.in_ok-with_ask.with_ask ≡ ask_added =
    c.in_ok-with_ask.ensures.shape c.in_ok-ask.ensures.local ∙ ap₂ with_subcommand c.in_ok-servers.ensures.app (ap top c.in_ok-ask.ensures.app) in
    let with_read : app_of c.in_ok-with_read.with_read ≡ read_added =
    c.in_ok-with_read.ensures.shape c.in_ok-read.ensures.local ∙ ap₂ with_subcommand with_ask (ap top c.in_ok-read.ensures.app) in
    let top_added : App = with_subcommand read_added top_app.top in
    let with_top : app_of c.in_ok-with_top.with_top ≡ top_added =
    c.in_ok-with_top.ensures.shape c.in_ok-top.ensures.local ∙ ap₂ with_subcommand with_read (ap top c.in_ok-top.ensures.app) in
    record {
      app = IfOk-weaker c.subcommand-4.result _ _ (λ r h. h.shape c.in_ok-key.ensures.local ∙ ap₂ with_subcommand with_top (ap top c.in_ok-key.ensures.app)) c.subcommand-4.ensures;
    }
