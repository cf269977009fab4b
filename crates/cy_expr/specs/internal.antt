-- What proofs and the crate's own functions need.
pub mod Arms
pub mod Empty
pub mod Joins
pub mod Lent
pub mod Membership
