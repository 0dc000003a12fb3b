use Rattle.tt_judge.proofs.Deciding.{is_violated-decides, none-IsConsistent}
use Rattle.tt_judge.proofs.judging.consistency_laws.Goals as goal

pub returns : goal.returns
returns c = record { decided = is_violated-decides; none = none-IsConsistent }
