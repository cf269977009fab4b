-- What proofs and the crate's own functions need.
pub mod Feeding
pub mod Lines
pub mod Options
pub mod Printing
pub mod Serving
pub mod Tokens
pub mod Writing
