pub mod Agreement
pub mod Networks
pub mod Usage
