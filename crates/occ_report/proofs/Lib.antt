pub mod Adding
pub mod PlaceLines
pub mod Lines
pub mod Chains
pub mod Fronts
pub mod Reading
mod Turns
mod PastReady
