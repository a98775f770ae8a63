pub mod Failures
pub mod Inputs
pub mod Texts
