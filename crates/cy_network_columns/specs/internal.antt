-- What proofs and the crate's own functions need.
pub mod Chains
pub mod Cells
pub mod Columns
