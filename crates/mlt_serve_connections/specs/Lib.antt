pub mod Lines
pub mod Accepts
