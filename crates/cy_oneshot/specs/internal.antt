-- What proofs and the crate's own functions need.
pub mod Carried
pub mod Conditions
pub mod Matches
pub mod Names
pub mod Reached
pub mod Tables
