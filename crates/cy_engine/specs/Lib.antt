pub mod Followers
pub mod Headline
pub mod KeptRuns
pub mod Runs
pub mod internal
