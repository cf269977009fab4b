mod SortedAlike
mod GroupsByKeys
mod Sifted
mod Totals
mod Aggregated
mod AggregateAnswers
pub mod Failing
mod SumLemmas
mod ProjectionAnswers
mod GroupAnswers
mod RowsThere
mod Projections
pub mod Unordered
mod KeyPlaces
mod SortedKeys
