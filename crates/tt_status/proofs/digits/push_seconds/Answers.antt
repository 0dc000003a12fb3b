use Rattle.std.proofs.Common.{rules, append_assoc}
use Rattle.tt_status.specs.Digits.{seconds_text}
use Rattle.tt_status.proofs.digits.push_seconds.Goals as goal

pub returns : goal.returns
unfolding seconds_text
returns c = search (rules, append_assoc)
