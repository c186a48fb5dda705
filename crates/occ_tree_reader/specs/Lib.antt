pub mod Reads
pub mod Heads
pub mod Opened
pub mod Rows
