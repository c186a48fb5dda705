pub mod Deaf
mod Hearing
pub mod More
pub mod Live
pub mod Shown
pub mod Examples
pub mod Looking
pub mod Ahead
