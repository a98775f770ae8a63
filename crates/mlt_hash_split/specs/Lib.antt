pub mod FirstPhases
pub mod Rests
pub mod Splits
pub mod Steps
pub mod Tells
