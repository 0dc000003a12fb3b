use Rattle.tt_stamp.proofs.Laws.{IsAnswer-stamp_of, Holds-stamp_of, whole_lease}
use Rattle.tt_stamp.proofs.rows.stamp_laws.Goals as goal

pub returns : goal.returns
returns c = record { answer = IsAnswer-stamp_of; in_lease = Holds-stamp_of; whole_lease = whole_lease }
