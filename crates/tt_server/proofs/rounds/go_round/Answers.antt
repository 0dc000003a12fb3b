-- What comes before and after the call changes neither the daemon nor the publications.
use Rattle.std.proofs.Common.{◌∙◌, ap}
use Rattle.tt_server.specs.Break.{seen_in}
use Rattle.tt_server.proofs.Calls.{MakesHeardCall-same, MakesHeardCall-wider}
use Rattle.tt_server.proofs.Ending.{goes-round}
use Rattle.tt_server.proofs.rounds.go_round.Goals as goal

pub returns-clause-heard : goal.returns-clause-heard
returns-clause-heard g c =
    MakesHeardCall-same _ _ _ _ _ _ _ _ _ _ (c.look_at_width.ensures.wire ∙ c.hear_names.ensures.wire) (c.look_at_width.ensures.same ∙ c.hear_names.ensures.same) (c.hear_all.ensures.same ∙ c.settle.ensures.same)
    (MakesHeardCall-wider _ _ _ _ _ _ _ c.now_of.ensures.rises c.show.ensures.rises c.round-did.ensures.heard)

pub returns-clause-wire : goal.returns-clause-wire
returns-clause-wire g c = c.hear_all.ensures.wire ∙ c.settle.ensures.wire ∙ c.round-did.ensures.wire ∙ c.look_at_width.ensures.wire ∙ c.hear_names.ensures.wire

pub returns-clause-breaks : goal.returns-clause-breaks
returns-clause-breaks g c =
    let shown = ap seen_in (c.round-did.ensures.shown ∙ c.look_at_width.ensures.shown ∙ c.hear_names.ensures.shown) in
    let broken = c.round-did.ensures.broken ∙ c.look_at_width.ensures.broken ∙ c.hear_names.ensures.broken in
    goes-round _ _ _ _ _ _ _ _ _ _ _ _ _ shown broken (ap seen_in c.hear_all.ensures.shown) c.hear_all.ensures.broken c.round-did.ensures.published c.settle.ensures.shown c.settle.ensures.broken
