pub mod Answers
pub mod Counting
pub mod Json
pub mod Objects
pub mod Pages
