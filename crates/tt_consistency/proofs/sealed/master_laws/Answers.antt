use Rattle.tt_consistency.proofs.Mastering.{calls-handed, came-sealed, few-bad_masters}
use Rattle.tt_consistency.proofs.sealed.master_laws.Goals as goal

pub returns : goal.returns
returns g = record { handed = calls-handed; came = came-sealed; few_faulty = few-bad_masters }
