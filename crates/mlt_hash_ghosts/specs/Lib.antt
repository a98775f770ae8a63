pub mod Events
pub mod Ghosts
pub mod Ledgers
pub mod Moves
pub mod Operations
