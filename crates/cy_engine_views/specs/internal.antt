-- What proofs and the crate's own functions need.
pub mod Loops
