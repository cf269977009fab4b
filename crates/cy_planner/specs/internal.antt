-- What proofs and the crate's own functions need.
pub mod Matches
pub mod Projections
pub mod Keys
pub mod Patterns
pub mod Copies
pub mod Standing
pub mod OuterAbove
pub mod SplitPredicates
-- What proofs alone need.
pub mod ClausePlans
pub mod QueryPlans
pub mod Stands
pub mod ViewClauses
