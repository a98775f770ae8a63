mod Names
pub mod FastPath
pub mod Backing
pub mod Inverses
pub mod Pending
pub mod FastCalls
pub mod Images
pub mod Standing
pub mod TxSlots
pub mod Trying
