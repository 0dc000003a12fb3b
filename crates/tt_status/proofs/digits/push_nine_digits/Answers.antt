use Rattle.std.proofs.Common.{rules, append_assoc}
use Rattle.tt_status.specs.Digits.{nine_digits}
use Rattle.tt_status.proofs.digits.push_nine_digits.Goals as goal

pub returns : goal.returns
unfolding nine_digits
returns c = search (rules, append_assoc)
