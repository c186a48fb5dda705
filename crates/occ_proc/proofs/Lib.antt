pub mod Messages
pub mod Moving
pub mod Parted
pub mod Quickly
pub mod Shifted
pub mod Stacks
pub mod Tested
pub mod Walking
pub mod Mapped
pub mod Turning
pub mod Offered
mod Opened
mod Rows
pub mod Stretching
mod ArmRows
