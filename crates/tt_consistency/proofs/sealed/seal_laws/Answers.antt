use Rattle.tt_consistency.proofs.Coming.{takes-came, takes-sealed}
use Rattle.tt_consistency.proofs.Sealing.{correct-safe, few-bad}
use Rattle.tt_consistency.proofs.sealed.seal_laws.Goals as goal

pub returns : goal.returns
returns g = record { takes_came = takes-came; takes_sealed = takes-sealed; correct = correct-safe; few_faulty = few-bad }
