pub mod Trees
pub mod TreeModels
pub mod Depth
pub mod Show
pub mod internal
