pub mod Config
pub mod Fault
pub mod Publication
pub mod Daemon
