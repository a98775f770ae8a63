pub mod Alone
pub mod AloneWalks
pub mod HashFiles
pub mod SplitPages
