pub mod After
pub mod internal
