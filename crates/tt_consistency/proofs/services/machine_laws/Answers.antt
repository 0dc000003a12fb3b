use Rattle.tt_consistency.proofs.Holding.{publications-hold, publications-meet}
use Rattle.tt_consistency.proofs.LeastCuts.{machine-first}
use Rattle.tt_consistency.proofs.services.machine_laws.Goals as goal

pub returns : goal.returns
returns c = record {
  publications_hold = publications-hold;
  publications_meet = publications-meet;
  first_calls = machine-first;
}
