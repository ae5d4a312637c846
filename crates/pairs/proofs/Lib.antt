pub mod Chains
pub mod Stores
pub mod Race
pub mod Walks
