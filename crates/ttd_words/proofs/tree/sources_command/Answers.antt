use Rattle.std.proofs.Common.{◌≡◌, ◌∙◌, ap, ap₂, codes}
use Rattle.std.proofs.lemmas.Result.{IfOk-weaker}
use Rattle.clap.specs.Simple.{App, Shape, app_of, new_app, with_subcommand}
use Rattle.ttd_words.specs.CommandLine.{age_app, bare_app, sources_app}
use Rattle.ttd_words.proofs.tree.sources_command.Goals as goal

pub returns : goal.returns
unfolding sources_app
returns c =
    let top : App → Shape = λ a. a.top in
    let age_added : App = with_subcommand bare_app age_app.top in
    let fuse_added : App = with_subcommand age_added (new_app (codes "fuse")).top in
    let with_age : app_of c.in_ok-with_age.with_age ≡ age_added =
    c.in_ok-with_age.ensures.shape c.in_ok-age.ensures.local ∙ ap₂ with_subcommand c.in_ok-bare.ensures.app (ap top c.in_ok-age.ensures.app) in
    let with_fuse : app_of c.in_ok-with_fuse.with_fuse ≡ fuse_added =
    c.in_ok-with_fuse.ensures.shape c.plain_command-fuse.ensures.local ∙ ap₂ with_subcommand with_age (ap top c.plain_command-fuse.ensures.app) in
    record {
      app = IfOk-weaker c.subcommand-3.result _ _ (λ r h. h.shape c.plain_command-check.ensures.local ∙ ap₂ with_subcommand with_fuse (ap top c.plain_command-check.ensures.app)) c.subcommand-3.ensures;
    }
