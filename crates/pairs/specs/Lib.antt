pub mod Lent
pub mod Chains
pub mod Listing
