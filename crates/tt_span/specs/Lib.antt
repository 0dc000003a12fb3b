pub mod Fault
pub mod Time
pub mod Interval
pub mod Drift
pub mod Statement
pub mod Sources
