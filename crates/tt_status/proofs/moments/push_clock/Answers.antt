use Rattle.std.proofs.Common.{rules, append_assoc}
use Rattle.tt_status.specs.Moment.{clock_text}
use Rattle.tt_status.proofs.moments.push_clock.Goals as goal

pub returns : goal.returns
unfolding clock_text
returns c = search (rules, append_assoc)
