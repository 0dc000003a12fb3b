use Rattle.std.proofs.Common.{rules, append_assoc}
use Rattle.tt_status.specs.Moment.{moment_text}
use Rattle.tt_status.proofs.moments.push_moment.Goals as goal

pub returns : goal.returns
unfolding moment_text
returns c = search (rules, append_assoc)
