pub mod LockTables
pub mod Requests
pub mod LockLists
pub mod Marks
