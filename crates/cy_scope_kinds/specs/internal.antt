-- What proofs and the crate's own functions need.
pub mod Answers
pub mod Maps
pub mod ExpressionTrees
pub mod TreeWords
