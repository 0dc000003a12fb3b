use Rattle.tt_life_events.proofs.Merges.{two-merge, workers-merge, life-merge}
use Rattle.tt_life_events.proofs.merging.merging_laws.Goals as goal

pub returns : goal.returns
returns g c = record {
  two = two-merge;
  workers = workers-merge;
  life = life-merge;
}
