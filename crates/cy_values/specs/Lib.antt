pub mod Order
pub mod Same
pub mod Bag
pub mod Truth
pub mod Compare
pub mod internal
