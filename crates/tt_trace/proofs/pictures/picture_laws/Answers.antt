use Rattle.tt_trace.proofs.Readings.{drawn_once}
use Rattle.tt_trace.proofs.WellFormed.{picture_good}
use Rattle.tt_trace.proofs.pictures.picture_laws.Goals as goal

pub returns : goal.returns
returns c = record { drawn_once = drawn_once; well_formed = picture_good }
