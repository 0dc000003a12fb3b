pub mod Simulation
pub mod Histories
pub mod Headline
