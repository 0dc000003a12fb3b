pub mod Fault
pub mod Plan
pub mod Notes
pub mod Replies
pub mod Clock
pub mod Running
pub mod Exchange
