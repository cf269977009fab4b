pub mod Costs
pub mod Work
pub mod Attributes
pub mod Changes
pub mod LookupCosts
pub mod Ends
pub mod Scans
pub mod internal
