pub mod Fault
pub mod CommandLine
pub mod Reading
pub mod Answer
pub mod Sentence
