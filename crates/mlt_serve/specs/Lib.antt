pub mod Clients
pub mod Desks
pub mod Threads
pub mod Endings
pub mod Loads
pub mod Tellings
pub mod TraceLines
