pub mod Sides
pub mod Forward
pub mod Answers
