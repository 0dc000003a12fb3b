use Rattle.tt_sharing.proofs.Slewing.{drift, found, holds, holds_then, in_range, narrow}
use Rattle.tt_sharing.proofs.bases.slewed_laws.Goals as goal

pub returns : goal.returns
returns c = record { in_range = in_range; found = found; holds_then = holds_then; drift = drift; holds = holds; narrow = narrow }
