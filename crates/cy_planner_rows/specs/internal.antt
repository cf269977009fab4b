-- What proofs and the crate's own functions need.
pub mod Alike
pub mod Asked
pub mod Conjuncts
pub mod Filters
pub mod Lookups
pub mod Lowered
pub mod Opened
pub mod WantedLists
