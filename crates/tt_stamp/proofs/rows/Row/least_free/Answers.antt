use Rattle.std.proofs.Common.{sym, ap, ◌∙◌}
use Rattle.tt_stamp.proofs.Stamps.{after, least_above-from_greatest}
use Rattle.tt_stamp.proofs.rows.Row.least_free.Goals as goal

pub returns-in-Some-clause-value : goal.returns-in-Some-clause-value
returns-in-Some-clause-value c given e =
    sym (least_above-from_greatest given ∙ ap after (e ∙ sym c.self.view_is ∙ c.in-Some.is))

pub returns-in-None-clause-value : goal.returns-in-None-clause-value
returns-in-None-clause-value c given e =
    sym (least_above-from_greatest given ∙ ap after (e ∙ sym c.self.view_is ∙ c.in-None.is))
