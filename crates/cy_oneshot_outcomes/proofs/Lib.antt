pub mod Agreeing
pub mod Collecting
mod Sums
mod Totals
mod Pigeons
mod OneEnd
mod Walks
mod Fitting
mod PlaceSums
mod Spread
mod PathPlaces
mod Tables
mod Unnamed
mod WorkedLengths
mod CertainSteps
pub mod Certainties
