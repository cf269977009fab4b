-- What proofs and the crate's own functions need.
pub mod Reads
pub mod Nests
pub mod ReadsOperations
pub mod Operands
pub mod Parts
