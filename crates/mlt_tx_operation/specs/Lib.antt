pub mod Performing
pub mod Walking
pub mod Operating
pub mod Answers
pub mod AtBucket
pub mod MostSteps
pub mod Fast
