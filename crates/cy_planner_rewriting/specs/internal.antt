-- What proofs and the crate's own functions need.
pub mod Above
pub mod Columns
pub mod Layers
pub mod Lowered
pub mod Opened
pub mod Redirected
pub mod Splits
pub mod KeyPairs
pub mod NarrowAbove
pub mod Narrows
pub mod Ranks
