pub mod Networks
pub mod Keeping
pub mod Leases
pub mod Settling
pub mod Stretches
pub mod Histories
pub mod Outcomes
pub mod FaultTexts
