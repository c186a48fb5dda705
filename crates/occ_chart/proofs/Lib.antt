pub mod Ordering
mod Drawing
mod Placing
