-- The laws of texts.
pub mod Texts
pub mod Unique
