use Rattle.tt_rounds.proofs.Listing.{IsCourse-over_lists}
use Rattle.tt_rounds.proofs.rounds.course_laws.Goals as goal

pub returns : goal.returns
returns c = record { lists = λ part clock clock' line line' from to answer makes. IsCourse-over_lists part clock clock' line line' from to answer makes }
