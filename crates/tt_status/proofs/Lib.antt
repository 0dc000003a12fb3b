pub mod Appending
pub mod Dates
pub mod Numbered
