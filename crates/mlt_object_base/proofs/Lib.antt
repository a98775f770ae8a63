mod Names
pub mod Counting
pub mod Maps
pub mod Meanings
pub mod OperationChanges
pub mod SizeRecords
pub mod Steps
pub mod Texts
mod TakingBack
