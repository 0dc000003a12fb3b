use Rattle.tt_rounds.proofs.Delaying.{sealed_answer-taken, once-taken, CostsDelay-late}
use Rattle.tt_rounds.proofs.laws.delay_laws.Goals as goal

pub returns : goal.returns
returns c = record { taken = sealed_answer-taken; once = once-taken; late = CostsDelay-late }
