pub mod Matching
pub mod Steps
