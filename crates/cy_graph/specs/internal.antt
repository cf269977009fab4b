-- What proofs and the crate's own functions need.
pub mod Adjacency
pub mod BeforeImages
pub mod Contents
pub mod Differences
pub mod Ends
pub mod Images
pub mod Listed
pub mod Place
pub mod Series
pub mod Slots
pub mod Versions
