pub mod Beginnings
pub mod Looking
