use Rattle.std.proofs.Common.{rules, append_assoc}
use Rattle.tt_top.specs.Head.{range_text}
use Rattle.tt_top.proofs.heads.push_range.Goals as goal

pub returns : goal.returns
unfolding range_text
returns c = search (rules, append_assoc)
