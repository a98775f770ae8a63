pub mod Ends
pub mod Events
pub mod Presences
pub mod AbstractStates
