pub mod Outcomes
pub mod Telling
pub mod Agreement
pub mod Ordered
pub mod Orders
pub mod Committed
