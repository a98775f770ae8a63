pub mod Halves
pub mod Numbered
