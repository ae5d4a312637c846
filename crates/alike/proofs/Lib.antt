pub mod Left
pub mod Laws
pub mod Places
