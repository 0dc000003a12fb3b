pub mod CommitLines
pub mod Deciding
pub mod KeyOrdered
pub mod Ordered
pub mod Storing
pub mod Sweeping
pub mod TermDeciding
pub mod TermSweeping
