pub mod Status
pub mod Playing
pub mod Working
pub mod Watching
pub mod Again
