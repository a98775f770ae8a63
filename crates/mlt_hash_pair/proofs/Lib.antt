mod Names
pub mod Behind
pub mod Finding
pub mod Laws
pub mod Locks
pub mod Makes
pub mod Nexts
pub mod Readings
pub mod Records
pub mod Slots
pub mod Together
