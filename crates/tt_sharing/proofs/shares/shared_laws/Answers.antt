use Rattle.tt_sharing.proofs.Finding.{in_range, is_of_life, holds, narrow}
use Rattle.tt_sharing.proofs.shares.shared_laws.Goals as goal

pub returns : goal.returns
returns c = record { in_range = in_range; is_of_life = is_of_life; holds = holds; narrow = narrow }
