-- What proofs and the crate's own functions need.
pub mod PieceWords
pub mod Showing
pub mod Separators
