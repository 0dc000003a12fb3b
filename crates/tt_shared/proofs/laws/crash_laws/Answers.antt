use Rattle.tt_shared.proofs.Crashing.{old_or_new as dies}
use Rattle.tt_shared.proofs.laws.crash_laws.Goals as goal

pub returns : goal.returns
returns c = record { old_or_new = λ n p before after bytes len shown died. dies n p before after bytes len shown died }
