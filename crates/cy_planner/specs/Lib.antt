pub mod Weight
pub mod Faults
pub mod WideTables
pub mod Serves
pub mod internal
