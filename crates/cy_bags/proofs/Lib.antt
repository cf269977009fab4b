pub mod Counting
pub mod Merging
pub mod Surpluses
