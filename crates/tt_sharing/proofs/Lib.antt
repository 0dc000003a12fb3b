pub mod Finding
pub mod Closing
pub mod Slewing
