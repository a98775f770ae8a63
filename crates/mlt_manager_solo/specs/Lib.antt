pub mod Events
pub mod Alone
pub mod Asking
pub mod Solo
pub mod Desks
