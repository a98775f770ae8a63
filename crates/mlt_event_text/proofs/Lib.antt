pub mod Going
pub mod Deciding
pub mod Cutting
pub mod Splitting
pub mod PlainLines
