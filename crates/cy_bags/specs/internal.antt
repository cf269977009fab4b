-- What proofs and the crate's own functions need.
pub mod Counting
pub mod Surplus
