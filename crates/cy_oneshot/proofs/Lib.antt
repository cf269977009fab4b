pub mod Carried
pub mod CarriedMatch
pub mod CarriedRows
pub mod Marked
pub mod Filters
pub mod Cleared
mod WhereLemmas
mod MatchLemmas
mod KnownPaths
mod ClauseAnswers
mod NewNames
mod UnionAnswers
