pub mod Xml
pub mod Columns
pub mod LeftOut
pub mod Shapes
pub mod Labels
pub mod Heads
pub mod Places
pub mod Charts
