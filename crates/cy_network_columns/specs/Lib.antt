pub mod Hashes
pub mod Rows
pub mod internal
