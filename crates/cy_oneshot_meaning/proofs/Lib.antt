pub mod Counts
pub mod Permuted
pub mod Joined
pub mod Together
pub mod InOrder
pub mod Once
pub mod OnceCounts
pub mod BagLemmas
pub mod KeyOrders
mod ListCounts
pub mod RisingKeys
pub mod Different
pub mod DifferentOnce
pub mod Candidates
pub mod Enumerations
pub mod Each
pub mod Sorting
pub mod OrderedLists
pub mod BagOutcomes
pub mod InGraphLemmas
pub mod GroupLemmas
pub mod ProjectionLemmas
pub mod ClauseLemmas
pub mod EachValue
pub mod SeenRows
pub mod Widths
pub mod QueryLemmas
mod EachRow
pub mod EachProjected
pub mod InGraphClauses
pub mod ScopePlaces
mod ScopeItems
pub mod ScopeClauses
pub mod ScopeColumns
pub mod ExampleGraphs
pub mod ExampleTrees
mod MatchRows
mod LengthRows
mod OptionalRows
mod ConditionRows
mod UnwindRows
mod AggregateRows
mod OrderRows
mod ReturnRows
mod GrownColumns
pub mod SureKept
mod ViewQueries
pub mod Searches
pub mod StepOrders
