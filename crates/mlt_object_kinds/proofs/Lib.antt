pub mod BaseLaws
mod Packings
pub mod CommutingLaws
pub mod Sizes
