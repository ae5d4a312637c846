pub mod Files
pub mod Outputs
