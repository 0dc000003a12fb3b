pub mod Happening
pub mod Worker
