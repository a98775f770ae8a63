mod Names
pub mod Splitting
pub mod Cutting
pub mod Allowed
pub mod Numerals
pub mod Pieces
pub mod Digits
pub mod Fronts
pub mod Keywords
