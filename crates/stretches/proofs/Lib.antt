pub mod Rows
pub mod Events
pub mod Ends
pub mod AllEvents
pub mod Answers
pub mod Handed
