pub mod Answers
pub mod Break
pub mod Pause
pub mod Rate
pub mod Width
