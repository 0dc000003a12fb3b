-- The clock reading since which n sources have answered is found, and is the only one.
use Rattle.tt_health.proofs.Newest.{nth_newest-is, only_newest}
use Rattle.tt_health.proofs.answers.answer_laws.Goals as goal

pub returns : goal.returns
returns c = record { found = nth_newest-is; only = only_newest }
