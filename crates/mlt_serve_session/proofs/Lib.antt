mod Names
pub mod Closing
pub mod Giving
pub mod Listening
pub mod Reaching
pub mod Receiving
pub mod Telling
