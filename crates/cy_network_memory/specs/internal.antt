-- What proofs and the crate's own functions need.
pub mod Buckets
pub mod Keys
pub mod Entries
pub mod Maps
pub mod Filed
pub mod Tables
pub mod Lists
pub mod Listings
