pub mod Stepping
pub mod LivingRounds
pub mod Coursing
pub mod Naming
pub mod Running
pub mod HoldingRounds
pub mod Rounding
pub mod Reading
pub mod Rising
pub mod Beginning
pub mod WorkedRounds
pub mod Putting
pub mod Lying
pub mod Faulting
pub mod Assuming
pub mod Calling
pub mod Telling
pub mod Comparing
pub mod WorkedCalls
mod Books
mod Calls
pub mod Walking
mod Stamping
mod Leasing
pub mod Judging
mod WorkedSession
mod TellingCommits
mod Holding
mod Serving
mod Living
pub mod WorkedRun
pub mod WorkedOrder
mod WorkedNode
mod Working
pub mod WorkedLife
mod BesideSessions
mod Snapshots
mod WorkedSnapshots
pub mod Cutting
pub mod LeastCuts
mod CuttingNodes
mod WorkedBreak
mod Coming
mod Sealing
mod Mastering
mod Terming
mod WorkedTerms
