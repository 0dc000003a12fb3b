use Rattle.std.proofs.Common.{rules, append_assoc}
use Rattle.tt_status.specs.Digits.{millionths_text}
use Rattle.tt_status.proofs.digits.push_millionths.Goals as goal

pub returns : goal.returns
unfolding millionths_text
returns c = search (rules, append_assoc)
