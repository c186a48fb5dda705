pub mod Faults
pub mod Lines
pub mod Reading
pub mod Spelling
pub mod Words
pub mod Sources
