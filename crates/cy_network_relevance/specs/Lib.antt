pub mod Lists
pub mod Trails
pub mod Relevance
pub mod Masks
pub mod NameBits
pub mod internal
