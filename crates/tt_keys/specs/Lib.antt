pub mod Line
pub mod Text
pub mod Access
pub mod Fault
