mod Names
pub mod Changes
pub mod GhostLookup
mod InStep
pub mod Lists
pub mod Moves
pub mod SlotTests
mod Slots
pub mod Transactions
