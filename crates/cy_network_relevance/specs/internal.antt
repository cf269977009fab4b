-- What proofs and the crate's own functions need.
pub mod Kept
pub mod Labelled
pub mod Left
