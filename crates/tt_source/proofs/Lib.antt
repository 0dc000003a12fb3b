pub mod Tightness
pub mod Awaited
