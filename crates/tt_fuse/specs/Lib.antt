pub mod Fault
pub mod Fusion
pub mod Depth
pub mod Pairs
pub mod Suspect
pub mod Ends
pub mod Stated
pub mod Scaled
