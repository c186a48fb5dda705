-- What stands in one line: trees, their written form, and reading them.
pub mod Trees
pub mod Views
pub mod Shown
pub mod Fits
pub mod Reading
pub mod Heads
pub mod HeadReading
pub mod HeadViews
pub mod Follow
