mod Names
pub mod Leaving
pub mod LocalStates
pub mod OwnSteps
pub mod Reading
pub mod Rebased
pub mod Results
pub mod Since
pub mod Turns
pub mod Unwritten
pub mod Views
pub mod AllEvents
pub mod AllRunning
pub mod CleanLaws
pub mod Others
pub mod RunningLaws
