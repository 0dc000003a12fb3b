use Rattle.tt_upstream.proofs.Fusing.{fused-holds}
use Rattle.tt_upstream.proofs.laws.fused_law.Goals as goal

pub returns : goal.returns
returns c = record { holds = fused-holds }
