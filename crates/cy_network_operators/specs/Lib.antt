pub mod OperatorCosts
pub mod Deltas
pub mod Passing
pub mod Joins
pub mod Partners
pub mod internal
