use Rattle.std.proofs.Common.{rules, ◌≡◌, ◌/◌, ◌∙◌, sym, pos}
use Rattle.jiff_core.specs.Date.{epoch_day}
use Rattle.jiff_core.proofs.DateLemmas.{epoch_day_injective}
use Rattle.tt_status.proofs.Dates.{not_before_1970}
use Rattle.tt_status.proofs.moments.date_of.Goals as goal

pub returns-clause-only : goal.returns-clause-only
returns-clause-only c other is =
    let value : epoch_day c.from_days_since_min.result ≡ pos (c.args.time / 86400000000000) = search rules in
    epoch_day_injective other c.from_days_since_min.result (is ∙ sym value)

pub returns-clause-since_1970 : goal.returns-clause-since_1970
returns-clause-since_1970 c =
    let value : epoch_day c.from_days_since_min.result ≡ pos (c.args.time / 86400000000000) = search rules in
    not_before_1970 c.from_days_since_min.result (c.args.time / 86400000000000) value
