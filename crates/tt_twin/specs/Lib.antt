pub mod TwinFault
pub mod Looks
pub mod Twin
pub mod Alike
pub mod Observation
