-- What proofs and the crate's own functions need.
pub mod Trails
pub mod PathPairs
pub mod Told
