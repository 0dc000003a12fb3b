use Rattle.tt_rounds.proofs.Listing.{IsReported-over_lists}
use Rattle.tt_rounds.proofs.rounds.report_laws.Goals as goal

pub returns : goal.returns
returns c = record { lists = λ part events clock clock' line line' from to answer before after reports. IsReported-over_lists part events clock clock' line line' from to answer before after reports }
