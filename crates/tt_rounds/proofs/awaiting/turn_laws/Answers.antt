use Rattle.tt_rounds.proofs.Handing.{handed_in-sent, handed-answer, taken-answers}
use Rattle.tt_rounds.proofs.awaiting.turn_laws.Goals as goal

pub returns : goal.returns
returns c = record {
  few = λ sent packets. handed_in-sent sent packets;
  heard = λ slot packets answer none is. handed-answer slot packets answer none is;
  taken = λ table i clock bytes sending can waits. taken-answers table i clock bytes sending can waits;
}
