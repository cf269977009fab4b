-- What proofs and the crate's own functions need.
pub mod Above
pub mod Conditions
pub mod Ends
pub mod Finding
pub mod Inputs
pub mod Pairs
pub mod Pushed
pub mod Sifting
pub mod Sources
pub mod Splits
pub mod Steps
pub mod Tests
pub mod Ways
pub mod Widths
