pub mod Tests
pub mod Taken
pub mod Waits
pub mod Walks
pub mod Starts
pub mod Runs
pub mod Stamps
