pub mod Numbers
pub mod Letters
pub mod Words
pub mod Lines
pub mod ReadLines
pub mod Fronts
