pub mod Crews
pub mod Lines
pub mod Plans
pub mod Reading
