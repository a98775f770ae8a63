mod Names
pub mod Bits
pub mod Maps
pub mod LockLaws
pub mod Pages
pub mod Tables
pub mod Conflicts
pub mod Grants
pub mod Covering
pub mod Sharing
pub mod Places
