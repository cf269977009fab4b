pub mod Feeds
pub mod Following
