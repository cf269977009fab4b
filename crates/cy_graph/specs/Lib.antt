pub mod Faults
pub mod Graph
pub mod Maps
pub mod Model
pub mod Stored
pub mod Touched
pub mod internal
