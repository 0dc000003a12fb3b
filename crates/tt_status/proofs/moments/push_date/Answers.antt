use Rattle.std.proofs.Common.{rules, append_assoc}
use Rattle.tt_status.specs.Moment.{date_text}
use Rattle.tt_status.proofs.moments.push_date.Goals as goal

pub returns : goal.returns
unfolding date_text
returns c = search (rules, append_assoc)
