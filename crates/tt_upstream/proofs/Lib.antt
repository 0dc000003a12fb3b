pub mod Saying
pub mod Running
pub mod Waiting
pub mod Fusing
pub mod Words
pub mod Exchanging
