pub mod Merging
pub mod Acts
pub mod Threads
pub mod Turns
pub mod Lists
pub mod Beginnings
pub mod Timing
