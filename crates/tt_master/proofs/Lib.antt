pub mod Answering
pub mod Watching
