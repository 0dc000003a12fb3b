pub mod Leap
pub mod Refusal
pub mod Server
pub mod Span
pub mod Run
pub mod Fused
pub mod KeyFile
pub mod Exchange
