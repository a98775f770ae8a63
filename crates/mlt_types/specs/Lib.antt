pub mod Cells
pub mod Limits
pub mod Maps
pub mod Pseudokeys
pub mod Refusals
