mod Placed
mod Placing
mod Fewer
mod Turning
pub mod OneStop
mod Holding
mod Putting
mod Changing
pub mod Tables
pub mod Quiet
mod States
mod Meeting
mod Still
mod Sending
mod Joinable
mod TakingTurns
mod Forks
mod Merging
mod Joining
mod Parents
pub mod Faults
mod Runs
mod EndedRuns
pub mod Settling
mod Happened
mod Beginning
mod Sharing
mod Whole
mod Turned
pub mod Examples
mod Moments
pub mod Law
mod Beside
pub mod Alone
pub mod Orderly
pub mod Same
pub mod MomentExamples
pub mod Arms
pub mod Choosing
pub mod TwoTurns
pub mod ReadyProcesses
pub mod Converse
mod Trees
mod Parts
mod Lagging
mod Ahead
mod Simulating
mod Arriving
mod Communicating
mod Pairing
mod Resting
pub mod Stepping
