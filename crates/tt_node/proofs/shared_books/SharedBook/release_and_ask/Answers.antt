use Rattle.tt_node.proofs.SharedBooks.{goes_on_released}
use Rattle.tt_node.proofs.shared_books.SharedBook.release_and_ask.Goals as goal

pub returns-clause-seen : goal.returns-clause-seen
returns-clause-seen g c = let told = c.release_and_ask-receipt.ensures in rw told.seen (goes_on_released c.args.reading.now.lo _ _ _ told.earlier told.released)
