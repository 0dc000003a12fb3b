use Rattle.tt_stamp.proofs.Runs.{entries_of-all, All-in_lease}
use Rattle.tt_stamp.proofs.sequencers.seat_laws.Goals as goal

pub returns : goal.returns
returns c = record { alone = entries_of-all; in_lease = All-in_lease }
