pub mod Entries
pub mod Editions
pub mod Rules
pub mod Traces
pub mod Writers
pub mod FaultTexts
