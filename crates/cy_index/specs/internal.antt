-- What proofs and the crate's own functions need.
pub mod Entries
pub mod Hashing
pub mod Indexed
pub mod Numbers
pub mod Postings
pub mod Under
