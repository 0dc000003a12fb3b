pub mod Clocks
pub mod Sleep
pub mod Slew
pub mod Guest
pub mod Duration
