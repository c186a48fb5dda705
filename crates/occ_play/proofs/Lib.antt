mod Headline
mod Gathered
pub mod Again
pub mod Working
mod Beside
mod TextTraces
