pub mod Booleans
pub mod Identity
pub mod Lists
pub mod Naturals
pub mod Orders
pub mod SameRows
pub mod Truths
