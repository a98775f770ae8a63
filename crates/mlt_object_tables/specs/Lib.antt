pub mod Examples
pub mod SizeOrders
pub mod Tables
pub mod Words
