pub mod Moving
pub mod Sealing
