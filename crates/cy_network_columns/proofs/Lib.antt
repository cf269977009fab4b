pub mod Ranks
pub mod Chaining
pub mod Links
pub mod Elements
pub mod Keeping
pub mod ColumnCells
pub mod Comparing
