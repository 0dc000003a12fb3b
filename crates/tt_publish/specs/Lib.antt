pub mod Fault
pub mod Clock
pub mod Reading
pub mod Known
pub mod Looks
pub mod Shown
