pub mod Message
pub mod Format
pub mod Spelling
pub mod Reading
pub mod Fault
