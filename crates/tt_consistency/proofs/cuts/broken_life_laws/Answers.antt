use Rattle.tt_consistency.proofs.WorkedBreak.{cut, committer, reader, broken-behind}
use Rattle.tt_consistency.proofs.WorkedOrder.{first, read_at}
use Rattle.tt_consistency.proofs.cuts.broken_life_laws.Goals as goal

pub returns : goal.returns
returns g = record { worked = (cut, reader, read_at 130, committer, first, broken-behind) }
