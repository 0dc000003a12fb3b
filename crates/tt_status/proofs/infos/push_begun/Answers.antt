use Rattle.std.proofs.Common.{rules}
use Rattle.tt_status.specs.Info.{begun_text}
use Rattle.tt_status.proofs.infos.push_begun.Goals as goal

pub returns : goal.returns
unfolding begun_text
returns c = search rules
