pub mod Lent
pub mod Steps
pub mod Stamps
pub mod Lookups
