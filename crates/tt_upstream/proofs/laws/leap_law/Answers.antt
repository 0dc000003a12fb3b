use Rattle.tt_upstream.proofs.Waiting.{run-silent}
use Rattle.tt_upstream.proofs.laws.leap_law.Goals as goal

pub returns : goal.returns
returns c = record { silent = run-silent }
