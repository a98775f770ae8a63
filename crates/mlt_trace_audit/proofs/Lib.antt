mod Names
pub mod Loops
mod Parts
pub mod Placed
pub mod Telling
pub mod Told
pub mod Begun
pub mod Places
pub mod Counts
pub mod Orderly
pub mod CommitOrder
pub mod CommittedList
