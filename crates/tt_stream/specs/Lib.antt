pub mod Counts
pub mod DeviceBytes
pub mod Counted
pub mod Memory
