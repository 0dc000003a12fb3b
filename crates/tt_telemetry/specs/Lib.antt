pub mod Records
pub mod Trouble
pub mod Notice
pub mod Status
