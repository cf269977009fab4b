mod Examples
mod ExampleTrees
pub mod Standing
