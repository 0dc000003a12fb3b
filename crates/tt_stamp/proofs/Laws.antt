-- The lemmas of this crate that the crates above may cite: what stamps and histories obey, whatever the code.

-- the answer to a commit is the least stamp, or says truly why there is none; a stamp lies in its lease; the answer depends on the greatest stamp alone
pub use Rattle.tt_stamp.proofs.Stamps.{IsAnswer-stamp_of, Holds-stamp_of, whole_lease, stamp_of-same_greatest, greatest_of-given}
-- a commit may be queued exactly where no fault is found
pub use Rattle.tt_stamp.proofs.Histories.{first_queue_fault-none-iff}
-- what a release gives, and that the history after it is legal
pub use Rattle.tt_stamp.proofs.Releases.{Commit, receipt_for, IsRelease-release_of, IsLegalHistory-release, reverse-with_receipts}
