pub mod Log
pub mod Left
pub mod Watch
pub mod Fault
pub mod Pages
pub mod Try
pub mod Shown
