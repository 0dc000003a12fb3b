pub mod Running
pub mod Reading
pub mod Sharing
pub mod SharedBooks
pub mod Gating
pub mod Committing
