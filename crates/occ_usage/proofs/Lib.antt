pub mod UseSets
pub mod Components
pub mod Walks
pub mod Reaches
pub mod Branches
pub mod Unlawful
