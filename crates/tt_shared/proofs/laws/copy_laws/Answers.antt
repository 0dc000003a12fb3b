use Rattle.tt_shared.proofs.Copying.{whole as copied}
use Rattle.tt_shared.proofs.Finding.{found}
use Rattle.tt_shared.proofs.laws.copy_laws.Goals as goal

pub returns : goal.returns
returns c = record {
  whole = λ published first last slot then bytes lf ll saw e same. copied published first last slot then bytes lf ll saw e same;
  found = λ published n index bytes p seen shared slot. found published n index bytes p seen shared slot;
}
