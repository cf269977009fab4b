pub mod Carried
pub mod Carrying
pub mod internal
