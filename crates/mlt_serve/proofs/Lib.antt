mod Names
pub mod Closing
pub mod Counting
pub mod Following
pub mod Merging
pub mod Lining
pub mod Loading
pub mod Numbering
pub mod Operations
pub mod Receiving
pub mod Sorting
pub mod Telling
pub mod Viewing
