mod Gathering
pub mod Leasing
pub mod Turning
pub mod Visiting
