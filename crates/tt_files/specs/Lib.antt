pub mod Way
pub mod Reason
