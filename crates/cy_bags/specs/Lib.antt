pub mod Difference
pub mod internal
