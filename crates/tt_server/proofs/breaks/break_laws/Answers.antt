use Rattle.tt_server.proofs.Breaking.{breaks_by_then, unmet_breaks}
use Rattle.tt_server.proofs.breaks.break_laws.Goals as goal

pub returns : goal.returns
returns c = record { unmet_breaks = unmet_breaks; breaks_by_then = breaks_by_then }
