pub mod Ascii
pub mod Behind
pub mod Caused
pub mod Nearby
