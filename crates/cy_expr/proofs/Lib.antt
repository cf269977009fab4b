pub mod Rules
pub mod ReadingLemmas
pub mod KindLemmas
pub mod SureLemmas
pub mod LabelNames
mod WholeSteps
