use Rattle.std.proofs.Common.{◌≡◌, ◌∙◌, ap, ap₂, codes}
use Rattle.std.proofs.lemmas.Result.{IfOk-weaker}
use Rattle.clap.specs.Simple.{App, Shape, app_of, new_app, with_subcommand}
use Rattle.ttd_words.specs.CommandLine.{runs_app, sources_app}
use Rattle.ttd_words.proofs.tree.runs_command.Goals as goal

pub returns : goal.returns
unfolding runs_app
returns c =
    let top : App → Shape = λ a. a.top in
    let run_added : App = with_subcommand sources_app (new_app (codes "run")).top in
    let trace_added : App = with_subcommand run_added (new_app (codes "trace")).top in
    let with_run : app_of c.in_ok-with_run.with_run ≡ run_added =
    c.in_ok-with_run.ensures.shape c.plain_command-run.ensures.local ∙ ap₂ with_subcommand c.in_ok-with_sources.ensures.app (ap top c.plain_command-run.ensures.app) in
    let with_trace : app_of c.in_ok-with_trace.with_trace ≡ trace_added =
    c.in_ok-with_trace.ensures.shape c.plain_command-trace.ensures.local ∙ ap₂ with_subcommand with_run (ap top c.plain_command-trace.ensures.app) in
    record {
      app = IfOk-weaker c.subcommand-3.result _ _ (λ r h. h.shape c.in_ok-twin.ensures.local ∙ ap₂ with_subcommand with_trace (ap top c.in_ok-twin.ensures.app)) c.subcommand-3.ensures;
    }
