pub mod Disk
pub mod Fault
pub mod Text
pub mod Course
pub mod Lives
