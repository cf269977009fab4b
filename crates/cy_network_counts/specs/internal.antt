-- What proofs and the crate's own functions need.
pub mod OuterMatches
pub mod OuterNumbers
pub mod OuterNulls
pub mod PartnerSteps
pub mod SemiKeys
pub mod Sums
