-- What proofs and the crate's own functions need.
pub mod Entities
pub mod Creating
pub mod Deleting
pub mod Properties
pub mod Queries
pub mod Reached
