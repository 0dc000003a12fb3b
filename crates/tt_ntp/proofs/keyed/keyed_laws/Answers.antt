use Rattle.tt_ntp.proofs.Opening.{keyed_read_of-found, keyed_read_of-same}
use Rattle.tt_ntp.proofs.keyed.keyed_laws.Goals as goal

pub returns-clause-found : goal.returns-clause-found
returns-clause-found c = keyed_read_of-found

pub returns-clause-same : goal.returns-clause-same
returns-clause-same c = keyed_read_of-same
