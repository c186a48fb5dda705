pub mod Going
pub mod Passing
pub mod Turns
pub mod Doing
pub mod Opening
pub mod Stretches
pub mod Answering
pub mod ArmRows
