-- What proofs and the crate's own functions need.
pub mod Answers
pub mod Gone
