use Rattle.tt_upstream.proofs.Running.{run-right}
use Rattle.tt_upstream.proofs.laws.server_law.Goals as goal

pub returns : goal.returns
returns c = record { holds = run-right }
