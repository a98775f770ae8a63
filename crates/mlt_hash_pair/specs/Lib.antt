pub mod Changes
pub mod Pairs
pub mod Plans
pub mod Reading
pub mod Steps
pub mod Descents
pub mod Writing
