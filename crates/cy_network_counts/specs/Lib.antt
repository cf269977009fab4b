pub mod Outer
pub mod Semi
pub mod Merges
pub mod internal
