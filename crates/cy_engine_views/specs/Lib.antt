pub mod HeldViews
pub mod RegisteredViews
pub mod Upkeep
pub mod Faults
pub mod internal
