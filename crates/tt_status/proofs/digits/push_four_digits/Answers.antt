use Rattle.std.proofs.Common.{rules, append_assoc}
use Rattle.tt_status.specs.Digits.{four_digits}
use Rattle.tt_status.proofs.digits.push_four_digits.Goals as goal

pub returns : goal.returns
unfolding four_digits
returns c = search (rules, append_assoc)
