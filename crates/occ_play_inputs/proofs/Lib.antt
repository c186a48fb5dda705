mod Whole
mod Joining
mod EachPath
mod SeedRows
