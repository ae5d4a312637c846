pub mod Chunks
pub mod Filling
pub mod Raised
pub mod Rising
pub mod Stores
