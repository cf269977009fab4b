pub mod Faults
pub mod Counts
pub mod Records
pub mod Listings
pub mod Steps
pub mod internal
