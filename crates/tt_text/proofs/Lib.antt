pub mod Digits
pub mod Fronts
pub mod Lines
pub mod Many
pub mod Whole
