pub mod Gathered
pub mod Steps
pub mod Tokens
pub mod Held
pub mod Telling
pub mod FaultTexts
