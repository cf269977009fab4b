pub mod Matched
pub mod Optional
pub mod Columns
pub mod Paths
pub mod internal
