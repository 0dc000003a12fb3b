use Rattle.tt_rounds.proofs.Answering.{HandsOn-sealed, answer-opens}
use Rattle.tt_rounds.proofs.laws.sealed_laws.Goals as goal

pub returns : goal.returns
returns c = record { came_sealed = HandsOn-sealed; answer_opens = answer-opens }
