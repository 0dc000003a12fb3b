use Rattle.tt_report.proofs.limits.LogLimits.new.Goals as goal
use Rattle.tt_report.proofs.Places.{new-kinds}

pub returns : goal.returns
returns c = record { nothing = new-kinds c.new.result c.new.ensures.nothing }
