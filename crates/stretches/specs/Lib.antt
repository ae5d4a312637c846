pub mod Stretches
pub mod AllEvents
pub mod Lent
pub mod Handed
pub mod Rows
