-- What proofs and the crate's own functions need.
pub mod Added
pub mod Held
pub mod Inputs
pub mod Kept
pub mod Parts
pub mod Upkeep
