pub mod Taken
pub mod Searches
pub mod Runs
pub mod Matching
pub mod Walks
