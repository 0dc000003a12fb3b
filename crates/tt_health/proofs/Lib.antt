pub mod Newest
pub mod Rating
