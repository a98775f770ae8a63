pub mod Forms
pub mod Readings
pub mod Grammar
pub mod Answering
pub mod TellTexts
pub mod Commands
pub mod Inputs
