pub mod Texts
pub mod Growth
pub mod ByteMessages
mod Passing
mod Shielded
