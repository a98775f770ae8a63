mod Names
pub mod Membership
pub mod Bits
pub mod ClassLaws
pub mod Lowest
pub mod Holding
pub mod Covering
pub mod Reservations
pub mod Entries
pub mod Found
pub mod Notes
pub mod Changes
pub mod Released
pub mod Sound
pub mod Clashing
