-- What is promised of whole runs.
pub mod Breaking
pub mod Laws
pub mod Promises
pub mod Running
pub mod Committing
pub mod Committed
pub mod OnRun
pub mod Meeting
