pub mod Asked
pub mod GoingOn
pub mod Pushes
pub mod Telling
