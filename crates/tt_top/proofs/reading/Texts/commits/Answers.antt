use Rattle.std.proofs.Common.{rules}
use Rattle.tt_top.specs.View.{commits_of}
use Rattle.tt_top.proofs.reading.Texts.commits.Goals as goal

pub returns : goal.returns
unfolding commits_of
returns c = search rules
