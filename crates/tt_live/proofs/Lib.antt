pub mod Answering
pub mod Ending
pub mod Running
pub mod Taking
