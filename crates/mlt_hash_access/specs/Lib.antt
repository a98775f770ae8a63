pub mod LocalStates
pub mod PageSteps
pub mod PageTurns
pub mod Reading
pub mod Views
pub mod CleanPages
pub mod Running
