-- What proofs and the crate's own functions need.
pub mod Grouping
pub mod Integers
pub mod KeyPlaces
pub mod Keys
