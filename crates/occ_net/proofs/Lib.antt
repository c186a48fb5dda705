pub mod Numbers
pub mod Ready
pub mod States
pub mod Leased
pub mod Stretching
pub mod Reading
pub mod CameTo
pub mod Marks
