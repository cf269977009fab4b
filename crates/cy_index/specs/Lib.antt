pub mod Faults
pub mod Index
pub mod internal
