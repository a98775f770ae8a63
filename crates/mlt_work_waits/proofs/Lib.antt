pub mod Found
pub mod Ways
pub mod Acyclic
pub mod Ends
pub mod Youngest
pub mod Exact
pub mod Fewer
pub mod InTurn
