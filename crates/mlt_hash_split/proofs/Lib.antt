mod Names
pub mod Among
pub mod Beginning
pub mod Closing
pub mod Doubling
pub mod Few
pub mod Header
pub mod HeldPages
pub mod InPlace
pub mod Later
pub mod Laws
pub mod Locks
pub mod Narrow
pub mod OldBucket
pub mod SecondHalf
pub mod Steps
