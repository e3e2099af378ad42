-- The laws of shares.
pub mod Unique
