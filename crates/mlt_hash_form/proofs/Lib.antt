mod Names
pub mod Bits
mod RecordChange
pub mod Crowd
mod Fill
pub mod FillEnds
pub mod HeldPages
pub mod InPages
pub mod InPlace
pub mod Lookup
pub mod MapChanges
pub mod Midway
mod MidwayEnds
mod Opening
pub mod OpeningFile
pub mod PageContents
pub mod Paths
mod PrefixForm
mod RecordMap
mod Same
pub mod SingleChanges
mod Slots
mod SplitDone
pub mod SplitSteps
pub mod Splitting
mod Places
mod Changes
