pub mod Images
pub mod ImageLists
pub mod Locking
