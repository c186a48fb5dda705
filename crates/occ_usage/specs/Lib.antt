pub mod Clashes
pub mod Noted
pub mod Parts
pub mod Indexes
pub mod Heads
pub mod Refusals
pub mod Walked
