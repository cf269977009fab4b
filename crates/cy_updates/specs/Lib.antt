pub mod Answers
pub mod internal
