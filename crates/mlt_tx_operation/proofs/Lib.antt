mod Names
pub mod AtBucket
pub mod Deciding
pub mod TwoRecordWalks
pub mod Going
pub mod MostSteps
pub mod Operations
pub mod Performing
pub mod Ready
pub mod Telling
pub mod Free
pub mod Passing
