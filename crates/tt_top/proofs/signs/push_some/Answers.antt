use Rattle.std.proofs.Common.{rules, append_assoc}
use Rattle.tt_top.specs.Sign.{some_text}
use Rattle.tt_top.proofs.signs.push_some.Goals as goal

pub returns : goal.returns
unfolding some_text
returns c = search (rules, append_assoc)
