use Rattle.std.proofs.Common.{rules}
use Rattle.tt_top.specs.View.{life_of}
use Rattle.tt_top.proofs.reading.Texts.life.Goals as goal

pub returns : goal.returns
unfolding life_of
returns c = search rules
