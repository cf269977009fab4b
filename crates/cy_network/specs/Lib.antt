pub mod Places
pub mod Networks
pub mod Prepared
pub mod internal
