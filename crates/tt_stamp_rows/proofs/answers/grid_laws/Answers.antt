use Rattle.tt_stamp_rows.proofs.Grid.{IsAnswerOn-stamp_on, stamp_on-widest}
use Rattle.tt_stamp_rows.proofs.answers.grid_laws.Goals as goal

pub returns : goal.returns
returns c = record {
  answer = λ ahead grid given latest floor lease some. IsAnswerOn-stamp_on grid given latest floor lease some ahead;
  widest = stamp_on-widest;
}
