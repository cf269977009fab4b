pub mod Rewritten
pub mod internal
