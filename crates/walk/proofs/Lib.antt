pub mod Walked
pub mod Left
