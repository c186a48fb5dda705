pub mod Ends
pub mod Endless
pub mod Kinds
pub mod ForGood
