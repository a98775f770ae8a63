pub mod Events
pub mod Opening
pub mod Sound
pub mod States
pub mod Transactions
pub mod Undoing
pub mod Traced
pub mod Copies
