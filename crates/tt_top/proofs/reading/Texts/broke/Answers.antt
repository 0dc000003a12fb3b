use Rattle.std.proofs.Common.{rules}
use Rattle.tt_top.specs.View.{broke_of}
use Rattle.tt_top.proofs.reading.Texts.broke.Goals as goal

pub returns : goal.returns
unfolding broke_of
returns c = search rules
