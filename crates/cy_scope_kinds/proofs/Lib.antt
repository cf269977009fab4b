pub mod ScopesLemmas
pub mod ResolvedLemmas
mod ScopeColumns
