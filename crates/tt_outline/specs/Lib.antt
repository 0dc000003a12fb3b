pub mod Outline
pub mod Rate
