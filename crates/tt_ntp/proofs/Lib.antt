pub mod Refusing
pub mod Ageing
pub mod Opening
