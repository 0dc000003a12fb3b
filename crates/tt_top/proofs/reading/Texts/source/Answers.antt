use Rattle.std.proofs.Common.{rules}
use Rattle.tt_top.specs.View.{source_of}
use Rattle.tt_top.proofs.reading.Texts.source.Goals as goal

pub returns : goal.returns
unfolding source_of
returns c = search rules
