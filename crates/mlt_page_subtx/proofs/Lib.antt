mod Names
pub mod ImageLaws
pub mod Lists
pub mod LockedPages
