pub mod Fault
pub mod Proof
pub mod Valid
pub mod Canonical
pub mod Sweep
pub mod Text
pub mod Reading
