pub mod OwnSteps
pub mod Extra
pub mod Counts
pub mod CountsOfTwo
