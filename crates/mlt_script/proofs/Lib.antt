pub mod Parting
mod Names
pub mod Placing
pub mod Scanning
pub mod Forming
pub mod Soundness
pub mod Completeness
pub mod Deciding
pub mod Numbers
pub mod Saying
pub mod PlainForms
pub mod Rereading
pub mod Printed
