-- Expressions: trees, their written form, and reading them.
pub mod Trees
pub mod Shown
pub mod Reading
pub mod Follow
pub mod Chains
