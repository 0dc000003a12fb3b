pub mod Pushing
pub mod Observing
pub mod Telling
pub mod Worth
