pub mod Running
pub mod Kept
pub mod Chains
pub mod Parts
pub mod Links
