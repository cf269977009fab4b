pub mod TreeModelsLemmas
pub mod QuotingLemmas
pub mod ShowLemmas
