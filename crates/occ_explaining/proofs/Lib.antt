pub mod Passing
pub mod Owning
pub mod Rounds
pub mod Names
mod ChartsOfRuns
mod Members
mod Named
mod NotedInputs
pub mod Refusing
mod Traces
