mod Names
mod Items
mod Steps
mod Wholes
mod Backs
mod Runs
mod Scripts
mod Ends
mod Alls
pub mod AtDesk
