pub mod Packet
pub mod Time
pub mod Reading
pub mod Keyed
pub mod Aged
pub mod Fault
