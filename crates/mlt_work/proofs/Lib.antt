pub mod ClaimMoves
pub mod GivenTries
pub mod Placing
pub mod Refusals
pub mod Texts
pub mod Viewing
