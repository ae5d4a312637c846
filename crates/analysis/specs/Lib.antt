pub mod Lent
pub mod Handed
