pub mod Share
pub mod Slewed
