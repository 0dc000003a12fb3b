use Rattle.tt_consistency.proofs.TellingCommits.{told-committed}
use Rattle.tt_consistency.proofs.orders.reply_laws.Goals as goal

pub returns : goal.returns
returns c = record { committed = told-committed }
