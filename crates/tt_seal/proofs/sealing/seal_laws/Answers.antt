use Rattle.tt_seal.proofs.Opening.{opened_of-found, opened_of-taken}
use Rattle.tt_seal.proofs.sealing.seal_laws.Goals as goal

pub returns : goal.returns
returns c = record {
  found = opened_of-found;
  taken = λ message keys key short is own has. opened_of-taken message keys key short is.number_fits own has;
}
