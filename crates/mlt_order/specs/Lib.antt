pub mod Histories
pub mod Interleavings
pub mod Runs
pub mod Tables
