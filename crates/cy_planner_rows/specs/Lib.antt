pub mod Renumbered
pub mod Places
pub mod Conditions
pub mod Columns
pub mod Rows
pub mod internal
