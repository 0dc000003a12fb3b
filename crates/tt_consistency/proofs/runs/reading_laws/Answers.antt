use Rattle.tt_consistency.proofs.Reading.{reading-holds, look-holds}
use Rattle.tt_consistency.proofs.runs.reading_laws.Goals as goal

pub returns : goal.returns
returns g c = record {
  reading_holds = reading-holds;
  look_holds = look-holds g.C.Clock.gives g.C.Clock.failed;
}
