-- What proofs and the crate's own functions need.
pub mod Reader
pub mod Chains
pub mod Expressions
pub mod Clauses
pub mod WellFormed
