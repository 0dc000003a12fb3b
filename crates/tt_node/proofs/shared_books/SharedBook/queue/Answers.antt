use Rattle.tt_node.proofs.SharedBooks.{goes_on_queued}
use Rattle.tt_node.proofs.shared_books.SharedBook.queue.Goals as goal

pub returns-clause-seen : goal.returns-clause-seen
returns-clause-seen g c = let told = c.queue-answer.ensures in rw told.seen (goes_on_queued _ c.queue-answer.result _ _ _ _ told.earlier told.ok told.err)
