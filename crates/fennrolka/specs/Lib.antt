pub mod Looking
pub mod Told
pub mod Calls
