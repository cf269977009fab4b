-- What proofs and the crate's own functions need.
pub mod Growing
pub mod Asked
pub mod Firsts
pub mod Agreement
pub mod Joined
pub mod LookupLists
pub mod OptionalPairs
