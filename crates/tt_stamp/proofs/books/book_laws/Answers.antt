use Rattle.tt_stamp.proofs.Histories.{first_queue_fault-full-iff, first_queue_fault-id-iff, first_queue_fault-stamp-iff}
use Rattle.tt_stamp.proofs.Releases.{IsStrictlyIncreasing-waiting_of}
use Rattle.tt_stamp.proofs.Laws.{first_queue_fault-none-iff, IsRelease-release_of, IsLegalHistory-release, reverse-with_receipts}
use Rattle.tt_stamp.proofs.Waits.{waits_iff}
use Rattle.tt_stamp.proofs.books.book_laws.Goals as goal

pub returns-clause-queue : goal.returns-clause-queue
returns-clause-queue c = first_queue_fault-none-iff

pub returns-clause-waiting : goal.returns-clause-waiting
returns-clause-waiting c = waits_iff

pub returns-clause-release : goal.returns-clause-release
returns-clause-release c = IsRelease-release_of

pub returns-clause-history : goal.returns-clause-history
returns-clause-history c = reverse-with_receipts

pub returns-clause-full : goal.returns-clause-full
returns-clause-full c = first_queue_fault-full-iff

pub returns-clause-id_there : goal.returns-clause-id_there
returns-clause-id_there c = first_queue_fault-id-iff

pub returns-clause-stamp_there : goal.returns-clause-stamp_there
returns-clause-stamp_there c = first_queue_fault-stamp-iff

pub returns-clause-rising : goal.returns-clause-rising
returns-clause-rising c = IsStrictlyIncreasing-waiting_of

pub returns-clause-legal : goal.returns-clause-legal
returns-clause-legal c = IsLegalHistory-release
