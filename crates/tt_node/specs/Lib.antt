pub mod Running
pub mod Sharing
pub mod Gating
pub mod SharedBooks
pub mod Working
