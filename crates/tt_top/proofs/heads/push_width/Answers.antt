use Rattle.std.proofs.Common.{rules, append_assoc}
use Rattle.tt_top.specs.Head.{width_text}
use Rattle.tt_top.proofs.heads.push_width.Goals as goal

pub returns : goal.returns
unfolding width_text
returns c = search (rules, append_assoc)
