pub mod Places
pub mod Explanations
pub mod Causes
