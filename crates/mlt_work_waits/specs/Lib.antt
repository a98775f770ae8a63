pub mod Waits
pub mod Queues
pub mod Gates
pub mod Turns
