pub mod SortKeys
pub mod internal
