pub mod Columns
mod RowsLemmas
pub mod TreeWordsLemmas
pub mod KindsKept
mod SameTrees
mod SameItself
pub mod KindedExpressions
mod KindedPatterns
mod KindedConditions
mod KindedClauses
mod Queries
mod WorkedRows
