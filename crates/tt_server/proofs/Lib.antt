pub mod Calls
pub mod Living
pub mod Breaking
pub mod Publishing
pub mod Ending
mod Ringing
pub mod Seating
