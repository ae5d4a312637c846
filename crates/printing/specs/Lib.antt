pub mod Output
pub mod Entries
pub mod Answer
