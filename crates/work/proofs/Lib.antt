pub mod Parts
pub mod Accepted
pub mod Filled
pub mod Questions
