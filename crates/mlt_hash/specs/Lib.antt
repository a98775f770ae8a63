pub mod Changes
pub mod Passes
pub mod Splitting
pub mod Steps
pub mod StepsLeft
pub mod Walks
