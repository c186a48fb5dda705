pub mod Gathered
mod Told
mod Moves
mod Staying
mod Growing
mod Telling
mod Desks
mod Rows
