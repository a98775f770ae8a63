pub mod Locks
pub mod Entries
pub mod Classes
pub mod Holders
pub mod Noted
pub mod Places
pub mod Cells
