pub mod Live
pub mod Examples
