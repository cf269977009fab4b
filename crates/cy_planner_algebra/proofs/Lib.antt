pub mod Counts
pub mod Pairs
pub mod Widths
pub mod PartCounts
pub mod PartLengths
pub mod Numbers
pub mod Layers
mod ExampleGraphs
mod Examples
