-- Processes and their parts: trees, their written form, and reading them, line by line.
pub mod Trees
pub mod Views
pub mod Shown
pub mod Fits
pub mod Reading
