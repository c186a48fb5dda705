pub mod ManyLoop
pub mod Steps
mod Arms
mod DeclaredNames
mod Levels
mod Openings
