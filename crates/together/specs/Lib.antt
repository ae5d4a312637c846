pub mod Naming
pub mod Lent
pub mod Named
