pub mod Answers
pub mod Hosts
pub mod Resources
pub mod Replies
pub mod Routes
