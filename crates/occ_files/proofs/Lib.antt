pub mod Ends
pub mod Joins
mod Known
mod PiecesWritten
