pub mod Living
pub mod Playing
