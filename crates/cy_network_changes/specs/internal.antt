-- What proofs and the crate's own functions need.
pub mod Forms
pub mod PassagesPartway
pub mod PlansKeptUp
pub mod Inputs
pub mod Passages
pub mod OperatorsKeptUp
