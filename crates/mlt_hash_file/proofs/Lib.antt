mod Names
pub mod Alone
pub mod AloneChanges
pub mod AloneEnds
pub mod AloneInsertions
pub mod AlonePages
pub mod AlonePasses
pub mod AloneSplits
pub mod AloneWalks
pub mod HashFiles
