pub mod Naming
pub mod Answers
pub mod Joining
