-- What proofs and the crate's own functions need.
pub mod Attributes
pub mod Images
pub mod Named
pub mod Sources
pub mod Rows
pub mod Through
