pub mod Codes
pub mod Crews
pub mod Gathering
pub mod Networks
pub mod Outcomes
pub mod Turning
