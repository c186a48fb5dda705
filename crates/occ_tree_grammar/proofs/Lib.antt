pub mod Made
pub mod Children
mod Readings
pub mod Binds
pub mod Colons
pub mod ExpressionAgain
pub mod ExpressionSound
pub mod HeadAgain
pub mod HeadSound
pub mod LineAgain
pub mod LineSound
pub mod Manys
pub mod ProcessAgain
pub mod ProcessSound
pub mod Whole
