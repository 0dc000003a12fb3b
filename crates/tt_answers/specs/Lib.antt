pub mod Turns
pub mod Sealing
pub mod Tallies
