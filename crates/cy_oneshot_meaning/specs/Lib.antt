pub mod Order
pub mod Reading
pub mod Groups
pub mod Projection
pub mod Queries
pub mod internal
