pub mod Moving
pub mod Wire
