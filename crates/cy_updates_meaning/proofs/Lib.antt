pub mod Bags
pub mod ReadingStatements
pub mod Entries
pub mod StoredValues
pub mod Graphs
pub mod SetGraphs
pub mod Grown
pub mod Created
pub mod Deleted
pub mod EntryCounts
pub mod UpdatedGraphs
pub mod ScopedRows
mod ExampleTrees
mod CreateRows
mod SetRows
mod DeleteRows
pub mod InTurn
