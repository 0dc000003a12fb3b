pub mod Known
pub mod Chains
