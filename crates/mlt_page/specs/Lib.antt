pub mod Bits
pub mod Pages
pub mod Slots
pub mod Values
pub mod Numbered
pub mod Stores
