mod Names
pub mod Seen
pub mod Events
pub mod Runs
