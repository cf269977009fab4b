pub mod DepthLemmas
pub mod Turns
pub mod PartsLemmas
