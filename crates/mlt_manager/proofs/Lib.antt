mod Names
pub mod Added
pub mod Fast
pub mod Called
pub mod Chains
pub mod CleanPages
pub mod Counts
pub mod Courses
pub mod Depths
pub mod EachOpen
pub mod Ended
pub mod Ending
pub mod Finding
pub mod HandingOut
pub mod Headline
mod Images
pub mod Keeping
pub mod Kept
mod LeftBases
mod ListedSlots
pub mod Objects
pub mod Others
pub mod PassLocks
pub mod Playing
pub mod Promises
pub mod Quiet
pub mod Refusing
pub mod RunningOn
pub mod Stepped
pub mod Stepping
pub mod UndoingAll
pub mod UndoingBases
pub mod WholeBases
