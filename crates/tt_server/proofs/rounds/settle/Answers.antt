-- What the round published is compared first, and then the host is looked at.
use Rattle.std.proofs.Common.{◌∙◌, ap, subst, sym}
use Rattle.tt_server.specs.Break.{seen_in}
use Rattle.tt_server.proofs.Ending.{settled-so, shown-so}
use Rattle.tt_server.proofs.rounds.settle.Goals as goal

pub returns-clause-shown : goal.returns-clause-shown
returns-clause-shown g c =
    shown-so _ _ _ _ _ _ _ _ c.look_back.ensures.report c.records-records.ensures.shown
    (c.say_ends.ensures.shown ∙ c.look_at_slewed.ensures.shown ∙ c.look_at_host.ensures.shown ∙ c.compare.ensures.shown ∙ c.look_back.ensures.shown) c.hand_on.ensures.shown
    (c.note_published.ensures.shown ∙ c.count_stale.ensures.shown)

pub returns-clause-broken : goal.returns-clause-broken
returns-clause-broken g c =
    settled-so _ _ _ _ _ _ _ _ _ _ _ _ _ c.look_back.ensures.report c.records-records.ensures.shown c.look_back.ensures.shown c.look_back.ensures.broken c.compare.ensures.broken c.look_at_host.ensures.broken
    (c.note_published.ensures.broken ∙ c.count_stale.ensures.broken ∙ c.hand_on.ensures.broken ∙ c.say_ends.ensures.broken ∙ c.look_at_slewed.ensures.broken)
