use Rattle.tt_audit.proofs.Judging.{HoldsSomeTime-judged}
use Rattle.tt_audit.proofs.live.live_laws.Goals as goal

pub returns : goal.returns
returns c = record { right = HoldsSomeTime-judged }
