use Rattle.std.proofs.Common.{rules}
use Rattle.tt_top.specs.View.{signs_of}
use Rattle.tt_top.proofs.reading.Texts.signs.Goals as goal

pub returns : goal.returns
unfolding signs_of
returns c = search rules
