pub mod Words
pub mod Spells
pub mod SpellsClauses
pub mod Shown
pub mod internal
