mod Hearing
pub mod Making
mod Working
