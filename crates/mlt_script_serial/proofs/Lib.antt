mod Names
pub mod Running
pub mod Trees
pub mod Transcripts
pub mod Longest
pub mod Giving
pub mod Played
pub mod OneRun
pub mod Appends
pub mod Runs
