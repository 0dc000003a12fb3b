pub mod Request
pub mod Health
pub mod Start
pub mod Answer
pub mod Master
